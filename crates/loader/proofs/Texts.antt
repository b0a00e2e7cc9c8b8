-- A text that was found stands in the file, and texts stand one behind another.
use Rattle.std.proofs.Common.{◌≡◌, ℕ, ◌+◌, List, ◌++◌, Ok, Err, Result, length, refl, subst}
use Rattle.mig_stream.specs.Pieces.{text_in}
use Rattle.mig_stream.specs.declared.text_fault.TextFault.{TextFault}
use Rattle.mig_stream.specs.declared.text_fault.TextFault.TheVariants.{Field, Differs}
use Rattle.device_state.proofs.Found.{text_has}
use Rattle.device_state.proofs.Parts.{has_both}
use Rattle.file_plan.specs.Layout.{StandsAt}
use Rattle.loader.specs.Piece.{expected, refused_text}
use Rattle.loader.specs.declared.piece.Text.{Text}

same_of : (kind : Text) (found : Result (Unit {0}) TextFault) → refused_text kind found ≡ Ok tt → found ≡ Ok tt
same_of kind (Ok tt) is = refl
same_of kind (Err (Field fault)) is = absurd (cc)
same_of kind (Err (Differs at found)) is = absurd (cc)

-- the text of a piece that passed its check
pub stands : (kind : Text) (file : List ℕ) (at : ℕ) (text : List ℕ) → expected kind file at text ≡ Ok tt → StandsAt file at text
stands kind file at text is = (text_has file at text (same_of kind (text_in file at text) is)).same

-- one behind the other
pub stands_both : (file : List ℕ) (at between : ℕ) (one two : List ℕ) → between ≡ at + length one → StandsAt file at one → StandsAt file between two → StandsAt file at (one ++ two)
stands_both file at between one two place first second = has_both file at one two first (subst (λ (p : ℕ). StandsAt file p two) place second)
