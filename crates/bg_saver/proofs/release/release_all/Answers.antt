-- One page after another.
use Rattle.std.proofs.Common.{◌≡◌, ◌⊎◌, inl, inr, List, [], ◌∷◌, None, length, refl, sym, ap, ◌∙◌, subst, arith}
use Rattle.std.specs.Prelude.{ℕ, slice_get}
use Rattle.page_cell.specs.declared.plant.Taken.{Taken}
use Rattle.page_cell.specs.declared.plant.Taken.TheVariants as takes
use Rattle.bg_saver.specs.Members.{plant_state}
use Rattle.bg_saver.specs.Release.{ReleasesPages}
use Rattle.bg_saver.specs.Saver.{SaverData}
use Rattle.bg_saver.proofs.Freed.{all_free, less_left, may_go_on, none_released, released_busy, released_more}
use Rattle.bg_saver.proofs.release.release_all.Goals as goal

none_left : (left : List ℕ) → None ≡ slice_get left 0 → left ≡ []
none_left [] is = refl
none_left (p ∷ left) is = absurd (cc is)

not_busy : (answer : Taken) → (answer ≡ takes.Copied) ⊎ (answer ≡ takes.Stale) → answer ≡ takes.Busy → ⊥
not_busy answer (inl copied) busy = let both : takes.Copied ≡ takes.Busy = sym copied ∙ busy in cc both
not_busy answer (inr stale) busy = let both : takes.Stale ≡ takes.Busy = sym stale ∙ busy in cc both

pub loop-first-init : goal.loop-first-init
loop-first-init g c = record { so_far = none_released c.args.progress.now (plant_state g.P.Plant c.args.plant.now) c.requires.fits }

pub returns-in-Busy-clause-may_release : goal.returns-in-Busy-clause-may_release
returns-in-Busy-clause-may_release g c =
    may_go_on c.args.progress.now (plant_state g.P.Plant c.args.plant.now) (plant_state g.P.Plant c.take.new.self) c.loop-first.progress c.requires (g.met.P.Plant.flags _ c.requires.fits).0
    (released_busy _ _ (plant_state g.P.Plant c.loop-first.plant) _ _ _ _ _ c.loop-first.invariant.so_far c.in-Busy.ensures)

pub loop-first-smaller : goal.loop-first-smaller
loop-first-smaller g c =
    omega (arith, ap (λ (d : SaverData). length d.left) c.let_go.ensures.left, less_left c.loop-first.progress.left c.in-Some.first c.first.ensures.limits.sweep.ascending (sym c.in-Some.ensures.first))

pub loop-first-preserved : goal.loop-first-preserved
loop-first-preserved g c = record {
  so_far = subst (λ (d : SaverData). ReleasesPages c.args.progress.now (plant_state g.P.Plant c.args.plant.now) (plant_state g.P.Plant c.take.new.self) d) (sym c.let_go.ensures.left)
      (released_more c.args.progress.now (plant_state g.P.Plant c.args.plant.now) (plant_state g.P.Plant c.loop-first.plant) (plant_state g.P.Plant c.take.new.self) c.loop-first.progress c.in-Some.first _ _ c.take.result
      c.loop-first.invariant.so_far c.first.ensures.limits (sym c.in-Some.ensures.first) c.take.ensures (λ busy. not_busy c.take.result c.in-Copied.is busy));
}

pub returns-clause-leaves : goal.returns-clause-leaves
returns-clause-leaves g c =
    let none = none_left c.loop-first.progress.left c.in_default.ensures.first in
    record {
      pages = c.loop-first.invariant.so_far;
      answer = (none, all_free c.args.progress.now (plant_state g.P.Plant c.args.plant.now) (plant_state g.P.Plant c.loop-first.plant) c.loop-first.progress c.requires (g.met.P.Plant.flags _ c.requires.fits).0 c.loop-first.invariant.so_far none);
    }

pub returns-clause-may_release : goal.returns-clause-may_release
returns-clause-may_release g c =
    may_go_on c.args.progress.now (plant_state g.P.Plant c.args.plant.now) (plant_state g.P.Plant c.loop-first.plant) c.loop-first.progress c.requires (g.met.P.Plant.flags _ c.requires.fits).0 c.loop-first.invariant.so_far
