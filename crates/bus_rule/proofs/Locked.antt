-- Locks, after one step: one hand and one cell change.
use Rattle.std.proofs.Common.{◌≡◌, ◌≢◌, ◌⊎◌, inl, inr, ⊎_elim, ℕ, ◌+◌, ◌<◌, List, [], ◌∷◌, ◌++◌, length, slice_index, set, Option, Some, refl, sym, ◌∙◌, ap, subst, arith}
use mathlib.Core.Option as table
use mathlib.Core.Option.{some, none, some-injective, some-ne-none}
use lib.ListN.{get_elem?}
use Rattle.std.proofs.lemmas.Bool.{cases_eq}
use Rattle.std.proofs.lemmas.List.{length-set, get_or-set_same, get_or-set_other}
use Rattle.atomic_table.proofs.Lists.{set_here, set_else, at_longer}
use Rattle.bus_rule.specs.Locks.{Hand, Has, IsOnceEach, IsFree, IsOut, IsHeld, IsSomewhere, Locks}
use Rattle.bus_rule.proofs.Lists.{place_within, one_there, place_push, write_cases}

module _ {X : Type 0} where
  -- hand j and cell c change, and nothing else
  pub record Changes (due due_after : ℕ → Option X) (words words_after : List ℕ) (homes homes_after : List (table.Option X)) (hands hands_after : List (Hand X)) (c j : ℕ) (g h : Hand X) : Type 0 where
    pub was : get_elem? hands j ≡ some g
    pub stands : get_elem? hands_after j ≡ some h
    pub others : (k : ℕ) → k ≢ j → get_elem? hands_after k ≡ get_elem? hands k
    pub number : h.number ≡ g.number
    pub count : length homes_after ≡ length homes
    pub word_count : length words_after ≡ length words
    pub word : (d : ℕ) → d ≢ c → slice_index words_after (d + 1) ≡ slice_index words (d + 1)
    pub home : (d : ℕ) → d ≢ c → get_elem? homes_after d ≡ get_elem? homes d
    pub due_there : (d : ℕ) → d ≢ c → due_after d ≡ due d
    pub comes : (d : ℕ) (x : X) → d ≢ c → Has h.cells d x → Has g.cells d x
    pub stays : (d : ℕ) (x : X) → d ≢ c → Has g.cells d x → Has h.cells d x
    pub once : IsOnceEach h.cells
    pub nobody : (k : ℕ) (other : Hand X) (x : X) → k ≢ j → get_elem? hands k ≡ some other → Has other.cells c x → ⊥
    pub held : (x : X) → Has h.cells c x → IsHeld due_after words_after homes_after c x h
    pub now : IsFree due_after words_after homes_after c ⊎ IsOut due_after words_after homes_after c h

  module _ (due due_after : ℕ → Option X) (words words_after : List ℕ) (homes homes_after : List (table.Option X)) (hands hands_after : List (Hand X)) (c j : ℕ) (g h : Hand X)
      (locks : Locks due words homes hands) (ch : Changes due due_after words words_after homes homes_after hands hands_after c j g h) where
    -- each hand was there with its number
    hand_before : (k : ℕ) (o : Hand X) → get_elem? hands_after k ≡ some o → (b : Hand X) × (get_elem? hands k ≡ some b) × (b.number ≡ o.number)
    hand_before k o at =
        elim (cases_eq k j) as (λ _. (b : Hand X) × (get_elem? hands k ≡ some b) × (b.number ≡ o.number)) [
          | inl here ↦
              (let same : h ≡ o = one_there hands_after k h o (ap (get_elem? hands_after) here ∙ ch.stands) at in
              (g, ap (get_elem? hands) here ∙ ch.was, sym ch.number ∙ ap (λ (x : Hand X). x.number) same))
          | inr other ↦ (o, sym (ch.others k other) ∙ at, refl)
        ]

    -- another cell that is out stays out
    out_after : (d k : ℕ) (o : Hand X) → d ≢ c → get_elem? hands k ≡ some o → IsOut due words homes d o → IsSomewhere due_after words_after homes_after hands_after d
    out_after d k o other at out =
        elim (cases_eq k j) as (λ _. IsSomewhere due_after words_after homes_after hands_after d) [
          | inl here ↦
              (let same : o ≡ g = one_there hands k o g at (ap (get_elem? hands) here ∙ ch.was) in
              inr (
                j,
                h,
                ch.stands,
                record {
                  word = ch.word d other ∙ out.word ∙ ap (λ (x : Hand X). x.number) same ∙ sym ch.number;
                  content = out.content;
                  has = ch.stays d out.content other (subst (λ (x : Hand X). Has x.cells d out.content) same out.has);
                  home = ch.home d other ∙ out.home;
                },
              ))
          | inr elsewhere ↦
              inr (
                k,
                o,
                ch.others k elsewhere ∙ at,
                record {
                  word = ch.word d other ∙ out.word;
                  content = out.content;
                  has = out.has;
                  home = ch.home d other ∙ out.home;
                },
              )
        ]

    -- another cell is at home or out as before
    other_cell : (d : ℕ) → d ≢ c → d < length homes → IsSomewhere due_after words_after homes_after hands_after d
    other_cell d other within =
        elim (locks.each_cell d within) as (λ _. IsSomewhere due_after words_after homes_after hands_after d) [
          | inl free ↦ inl (record {
            word = ch.word d other ∙ free.word;
            content = free.content;
            home = ch.home d other ∙ free.home;
            fits = ch.due_there d other ∙ free.fits;
          })
          | inr (k, o, at, out) ↦ out_after d k o other at out
        ]

    cell_after : (d : ℕ) → d < length homes_after → IsSomewhere due_after words_after homes_after hands_after d
    cell_after d within =
        elim (cases_eq d c) as (λ _. IsSomewhere due_after words_after homes_after hands_after d) [
          | inl here ↦
              subst (IsSomewhere due_after words_after homes_after hands_after) (sym here) (⊎_elim (λ free. inl free) (λ out. inr (j, h, ch.stands, out)) ch.now)
          | inr other ↦ other_cell d other (omega (arith, within, ch.count))
        ]

    -- another cell is held as before
    held_as_before : (d : ℕ) (x : X) (before o : Hand X) → d ≢ c → before.number ≡ o.number → IsHeld due words homes d x before → IsHeld due_after words_after homes_after d x o
    held_as_before d x before o other number is = record {
      within = omega (arith, is.within, ch.count);
      number = omega (arith, is.number, number);
      word = ch.word d other ∙ is.word ∙ number;
      fits = ch.due_there d other ∙ is.fits;
    }

    held_here : (d : ℕ) (x : X) → Has h.cells d x → IsHeld due_after words_after homes_after d x h
    held_here d x has =
        elim (cases_eq d c) as (λ _. IsHeld due_after words_after homes_after d x h) [
          | inl here ↦
              subst (λ (e : ℕ). IsHeld due_after words_after homes_after e x h) (sym here) (ch.held x (subst (λ (e : ℕ). Has h.cells e x) here has))
          | inr other ↦ held_as_before d x g h other (sym ch.number) (locks.each_hand j g d x ch.was (ch.comes d x other has))
        ]

    held_elsewhere : (k : ℕ) (o : Hand X) (d : ℕ) (x : X) → k ≢ j → get_elem? hands k ≡ some o → Has o.cells d x → IsHeld due_after words_after homes_after d x o
    held_elsewhere k o d x elsewhere at has =
        elim (cases_eq d c) as (λ _. IsHeld due_after words_after homes_after d x o) [
          | inl here ↦ absurd (ch.nobody k o x elsewhere at (subst (λ (e : ℕ). Has o.cells e x) here has))
          | inr other ↦ held_as_before d x o o other refl (locks.each_hand k o d x at has)
        ]

    hand_after : (k : ℕ) (o : Hand X) (d : ℕ) (x : X) → get_elem? hands_after k ≡ some o → Has o.cells d x → IsHeld due_after words_after homes_after d x o
    hand_after k o d x at has =
        elim (cases_eq k j) as (λ _. IsHeld due_after words_after homes_after d x o) [
          | inl here ↦
              (let same : h ≡ o = one_there hands_after k h o (ap (get_elem? hands_after) here ∙ ch.stands) at in
              subst (IsHeld due_after words_after homes_after d x) same (held_here d x (subst (λ (y : Hand X). Has y.cells d x) (sym same) has)))
          | inr elsewhere ↦ held_elsewhere k o d x elsewhere (sym (ch.others k elsewhere) ∙ at) has
        ]

    once_after : (k : ℕ) (o : Hand X) → get_elem? hands_after k ≡ some o → IsOnceEach o.cells
    once_after k o at =
        elim (cases_eq k j) as (λ _. IsOnceEach o.cells) [
          | inl here ↦
              subst (λ (y : Hand X). IsOnceEach y.cells) (one_there hands_after k h o (ap (get_elem? hands_after) here ∙ ch.stands) at) ch.once
          | inr elsewhere ↦ locks.once k o (sym (ch.others k elsewhere) ∙ at)
        ]

    -- so the locks are kept
    pub update : Locks due_after words_after homes_after hands_after
    update = record {
      each_cell = cell_after;
      each_hand = hand_after;
      once = once_after;
      apart = λ k l o p at also positive same.
          (let a = hand_before k o at in
          let b = hand_before l p also in
          locks.apart k l a.0 b.0 a.1 b.1 (omega (arith, positive, a.2)) (a.2 ∙ same ∙ sym b.2));
      word_count = ch.word_count ∙ locks.word_count ∙ ap (λ n. n + 1) (sym ch.count);
    }

  -- ---- The steps

  module _ (due : ℕ → Option X) (words : List ℕ) (homes : List (table.Option X)) (hands : List (Hand X)) (locks : Locks due words homes hands) where
    -- a cell whose word is 0 is at home
    pub free_cell : (c : ℕ) → c < length homes → slice_index words (c + 1) ≡ 0 → IsFree due words homes c
    free_cell c within zero_word =
        elim (locks.each_cell c within) as (λ _. IsFree due words homes c) [
          | inl free ↦ free
          | inr (k, o, at, out) ↦ (let held = locks.each_hand k o c out.content at out.has in absurd (omega (arith, held.number, out.word, zero_word)))
        ]

    -- a cell that a hand has is out
    pub held_is_away : (c j : ℕ) (g : Hand X) (x : X) → get_elem? hands j ≡ some g → Has g.cells c x → get_elem? homes c ≡ some none
    held_is_away c j g x at has =
        let held = locks.each_hand j g c x at has in
        elim (locks.each_cell c held.within) as (λ _. get_elem? homes c ≡ some none) [
          | inl free ↦ absurd (omega (arith, held.number, held.word, free.word))
          | inr (k, o, there, out) ↦ out.home
        ]

    -- no other hand has it
    pub only_holder : (c j k : ℕ) (g o : Hand X) (x y : X) → get_elem? hands j ≡ some g → Has g.cells c x → get_elem? hands k ≡ some o → Has o.cells c y → j ≡ k
    only_holder c j k g o x y at has also other =
        let mine = locks.each_hand j g c x at has in
        let theirs = locks.each_hand k o c y also other in
        locks.apart j k g o at also mine.number (sym mine.word ∙ theirs.word)

    -- a cell that is found held, by one who doesn't hold it, has another's number
    pub others_number : (c j : ℕ) (g : Hand X) → get_elem? hands j ≡ some g → 0 < g.number → c < length homes → slice_index words (c + 1) ≢ 0 →
        ((x : X) → Has g.cells c x → ⊥) → slice_index words (c + 1) ≢ g.number
    others_number c j g at positive within found none_held same =
        elim (locks.each_cell c within) as (λ _. ⊥) [
          | inl free ↦ found free.word
          | inr (k, o, there, out) ↦
              (let here : j ≡ k = locks.apart j k g o at there positive (sym same ∙ out.word) in
              let is : o ≡ g = one_there hands k o g there (ap (get_elem? hands) (sym here) ∙ at) in
              none_held out.content (subst (λ (y : Hand X). Has y.cells c out.content) is out.has))
        ]

    -- a cell is taken
    pub takes_cell : (c j : ℕ) (g : Hand X) (x : X) → get_elem? hands j ≡ some g → 0 < g.number → c < length homes → slice_index words (c + 1) ≡ 0 →
        get_elem? homes c ≡ some (some x) →
        Locks due (set words (c + 1) g.number) (set homes c none) (set hands j (record { number = g.number; cells = (c, x) ∷ g.cells }))
    takes_cell c j g x at positive within zero_word home =
        let free = free_cell c within zero_word in
        let same : free.content ≡ x = some-injective free.content x (some-injective (some free.content) (some x) (sym free.home ∙ home)) in
        let nobody : (k : ℕ) (o : Hand X) (y : X) → get_elem? hands k ≡ some o → Has o.cells c y → ⊥ = λ k o y there has.
        (let held = locks.each_hand k o c y there has in absurd (omega (arith, held.number, held.word, zero_word))) in
        let h : Hand X = record { number = g.number; cells = (c, x) ∷ g.cells } in
        let away : table.Option X = none in
        let mine : slice_index (set words (c + 1) g.number) (c + 1) ≡ g.number = get_or-set_same words (c + 1) g.number 0 (omega (arith, within, locks.word_count)) in
        update due due words (set words (c + 1) g.number) homes (set homes c none) hands (set hands j h) c j g h locks (record {
          was = at;
          stands = set_here hands j h (place_within hands j g at);
          others = λ k other. set_else hands j k h other;
          number = refl;
          count = length-set homes c none;
          word_count = length-set words (c + 1) g.number;
          word = λ d other. get_or-set_other words (c + 1) (d + 1) g.number 0 (λ e. other (omega (arith, e)));
          home = λ d other. set_else homes c d none other;
          due_there = λ d other. refl;
          comes = λ d y other has. ⊎_elim (λ e. absurd (other (ap (λ (z : ℕ × X). z.0) (sym e)))) (λ there. there) has;
          stays = λ d y other has. inr has;
          once = ((λ y has. nobody j g y at has), locks.once j g at);
          nobody = λ k o y other there has. nobody k o y there has;
          held = λ y has. record {
            within = omega (arith, within, length-set homes c away);
            number = positive;
            word = mine;
            fits = ⊎_elim (λ e. free.fits ∙ ap Some (same ∙ ap (λ (z : ℕ × X). z.1) e)) (λ there. absurd (nobody j g y at there)) has;
          };
          now = inr (record { word = mine; content = x; has = inl refl; home = set_here homes c none within });
        })

    -- the cell that was taken last is given back, with its value due
    pub gives_cell : (c j : ℕ) (g : Hand X) (x : X) (rest : List (ℕ × X)) → get_elem? hands j ≡ some g → g.cells ≡ (c, x) ∷ rest →
        Locks due (set words (c + 1) 0) (set homes c (some x)) (set hands j (record { number = g.number; cells = rest }))
    gives_cell c j g x rest at top =
        let h : Hand X = record { number = g.number; cells = rest } in
        let has : Has g.cells c x = subst (λ (cs : List (ℕ × X)). Has cs c x) (sym top) (inl refl) in
        let held = locks.each_hand j g c x at has in
        let once = subst IsOnceEach top (locks.once j g at) in
        let home : table.Option X = some x in
        update due due words (set words (c + 1) 0) homes (set homes c home) hands (set hands j h) c j g h locks (record {
          was = at;
          stands = set_here hands j h (place_within hands j g at);
          others = λ k other. set_else hands j k h other;
          number = refl;
          count = length-set homes c home;
          word_count = length-set words (c + 1) 0;
          word = λ d other. get_or-set_other words (c + 1) (d + 1) 0 0 (λ e. other (omega (arith, e)));
          home = λ d other. set_else homes c d home other;
          due_there = λ d other. refl;
          comes = λ d y other there. subst (λ (cs : List (ℕ × X)). Has cs d y) (sym top) (inr there);
          stays = λ d y other there.
              ⊎_elim (λ e. absurd (other (ap (λ (z : ℕ × X). z.0) (sym e)))) (λ has. has) (subst (λ (cs : List (ℕ × X)). Has cs d y) top there);
          once = once.1;
          nobody = λ k o y other there theirs. other (sym (only_holder c j k g o x y at has there theirs));
          held = λ y there. absurd (once.0 y there);
          now = inl (record {
            word = get_or-set_same words (c + 1) 0 0 (omega (arith, held.within, locks.word_count));
            content = x;
            home = set_here homes c home held.within;
            fits = held.fits;
          });
        })

    -- what is due for the cell that was taken last changes, and perhaps the word that no cell has
    pub changes_cell : (due_after : ℕ → Option X) (words_after : List ℕ) (c j : ℕ) (g : Hand X) (x y : X) (rest : List (ℕ × X)) →
        get_elem? hands j ≡ some g → g.cells ≡ (c, x) ∷ rest → due_after c ≡ Some y → ((d : ℕ) → d ≢ c → due_after d ≡ due d) →
        length words_after ≡ length words → ((d : ℕ) → slice_index words_after (d + 1) ≡ slice_index words (d + 1)) →
        Locks due_after words_after homes (set hands j (record { number = g.number; cells = (c, y) ∷ rest }))
    changes_cell due_after words_after c j g x y rest at top fits others word_count word =
        let h : Hand X = record { number = g.number; cells = (c, y) ∷ rest } in
        let has : Has g.cells c x = subst (λ (cs : List (ℕ × X)). Has cs c x) (sym top) (inl refl) in
        let held = locks.each_hand j g c x at has in
        let once = subst IsOnceEach top (locks.once j g at) in
        update due due_after words words_after homes homes hands (set hands j h) c j g h locks (record {
          was = at;
          stands = set_here hands j h (place_within hands j g at);
          others = λ k other. set_else hands j k h other;
          number = refl;
          count = refl;
          word_count = word_count;
          word = λ d other. word d;
          home = λ d other. refl;
          due_there = others;
          comes = λ d z other there.
              ⊎_elim (λ e. absurd (other (ap (λ (w : ℕ × X). w.0) (sym e)))) (λ t. subst (λ (cs : List (ℕ × X)). Has cs d z) (sym top) (inr t)) there;
          stays = λ d z other there.
              ⊎_elim (λ e. absurd (other (ap (λ (w : ℕ × X). w.0) (sym e)))) (λ t. inr t) (subst (λ (cs : List (ℕ × X)). Has cs d z) top there);
          once = once;
          nobody = λ k o z other there theirs. other (sym (only_holder c j k g o x z at has there theirs));
          held = λ z there. record {
            within = held.within;
            number = held.number;
            word = word c ∙ held.word;
            fits = ⊎_elim (λ e. fits ∙ ap (λ (w : ℕ × X). Some w.1) e) (λ t. absurd (once.0 z t)) there;
          };
          now = inr (record { word = word c ∙ held.word; content = y; has = inl refl; home = held_is_away c j g x at has });
        })

    -- nothing that concerns a cell changes
    pub keeps_cells : (due_after : ℕ → Option X) (words_after : List ℕ) → ((d : ℕ) → due_after d ≡ due d) → length words_after ≡ length words →
        ((d : ℕ) → slice_index words_after (d + 1) ≡ slice_index words (d + 1)) → Locks due_after words_after homes hands
    keeps_cells due_after words_after same word_count word = record {
      each_cell = λ c within. elim (locks.each_cell c within) as (λ _. IsSomewhere due_after words_after homes hands c) [
        | inl free ↦ inl (record { word = word c ∙ free.word; content = free.content; home = free.home; fits = same c ∙ free.fits })
        | inr (k, o, at, out) ↦ inr (k, o, at, record { word = word c ∙ out.word; content = out.content; has = out.has; home = out.home })
      ];
      each_hand = λ j h c x at has.
          (let held = locks.each_hand j h c x at has in
          record { within = held.within; number = held.number; word = word c ∙ held.word; fits = same c ∙ held.fits });
      once = locks.once;
      apart = locks.apart;
      word_count = word_count ∙ locks.word_count;
    }

    -- one comes who has no cell, by a number that nobody else has
    pub adds_hand : (n : ℕ) → ((j : ℕ) (g : Hand X) → get_elem? hands j ≡ some g → 0 < g.number → g.number ≢ n) →
        Locks due words homes (hands ++ record { number = n; cells = [] } ∷ [])
    adds_hand n fresh =
        let h : Hand X = record { number = n; cells = [] } in
        record {
          each_cell = λ c within. elim (locks.each_cell c within) as (λ _. IsSomewhere due words homes (hands ++ h ∷ []) c) [
            | inl free ↦ inl free
            | inr (k, o, at, out) ↦ inr (k, o, at_longer hands (h ∷ []) k o at, out)
          ];
          each_hand = λ j o c x at has. elim (place_push hands j h o at) as (λ _. IsHeld due words homes c x o) [
            | inl before ↦ locks.each_hand j o c x before has
            | inr (place, last) ↦ absurd (subst (λ (y : Hand X). Has y.cells c x) (sym last) has)
          ];
          once = λ j o at. elim (place_push hands j h o at) as (λ _. IsOnceEach o.cells) [
            | inl before ↦ locks.once j o before
            | inr (place, last) ↦ subst (λ (y : Hand X). IsOnceEach y.cells) last tt
          ];
          apart = λ j k o p at also positive same. elim (place_push hands j h o at) as (λ _. j ≡ k) [
            | inl before ↦ elim (place_push hands k h p also) as (λ _. j ≡ k) [
              | inl and_before ↦ locks.apart j k o p before and_before positive same
              | inr (place, last) ↦ absurd (fresh j o before positive (same ∙ ap (λ (y : Hand X). y.number) (sym last)))
            ]
            | inr (place, last) ↦ elim (place_push hands k h p also) as (λ _. j ≡ k) [
              | inl before ↦
                  (let e : p.number ≡ n = sym same ∙ ap (λ (y : Hand X). y.number) (sym last) in
                  absurd (fresh k p before (omega (arith, positive, same)) e))
              | inr (other_place, other_last) ↦ place ∙ sym other_place
            ]
          ];
          word_count = locks.word_count;
        }

    -- one who has no cell goes
    pub drops_hand : (j : ℕ) (g : Hand X) → get_elem? hands j ≡ some g → g.cells ≡ [] → Locks due words homes (set hands j (record { number = 0; cells = [] }))
    drops_hand j g at empty =
        let h : Hand X = record { number = 0; cells = [] } in
        record {
          each_cell = λ c within. elim (locks.each_cell c within) as (λ _. IsSomewhere due words homes (set hands j h) c) [
            | inl free ↦ inl free
            | inr (k, o, there, out) ↦
                inr (
                  k,
                  o,
                  set_else hands j k h (λ e.
                      (let same : o ≡ g = one_there hands k o g there (ap (get_elem? hands) e ∙ at) in
                      subst (λ (cs : List (ℕ × X)). Has cs c out.content) (ap (λ (y : Hand X). y.cells) same ∙ empty) out.has)) ∙ there,
                  out,
                )
          ];
          each_hand = λ k o c x there has. elim (write_cases hands j k h g o at there) as (λ _. IsHeld due words homes c x o) [
            | inl (here, is) ↦ absurd (subst (λ (y : Hand X). Has y.cells c x) (sym is) has)
            | inr (elsewhere, before) ↦ locks.each_hand k o c x before has
          ];
          once = λ k o there. elim (write_cases hands j k h g o at there) as (λ _. IsOnceEach o.cells) [
            | inl (here, is) ↦ subst (λ (y : Hand X). IsOnceEach y.cells) is tt
            | inr (elsewhere, before) ↦ locks.once k o before
          ];
          apart = λ k l o p there also positive same. elim (write_cases hands j k h g o at there) as (λ _. k ≡ l) [
            | inl (here, is) ↦ absurd (omega (arith, positive, ap (λ (y : Hand X). y.number) is))
            | inr (elsewhere, before) ↦ elim (write_cases hands j l h g p at also) as (λ _. k ≡ l) [
              | inl (here, is) ↦ absurd (omega (arith, positive, same, ap (λ (y : Hand X). y.number) is))
              | inr (other, and_before) ↦ locks.apart k l o p before and_before positive same
            ]
          ];
          word_count = locks.word_count;
        }
