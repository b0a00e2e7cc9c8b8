-- The directives that give the bytes of a number (this project's own, docs/COMMAND_LINE.md, Assembler).
use Rattle.std.specs.Prelude.{ℕ, List, codes}
use Rattle.guest_asm.specs.declared.directive.Directive.{Directive}
use Rattle.guest_asm.specs.declared.directive.Directive.TheVariants.{Byte, Word, Dword}

-- how a directive is written, and how many bytes its number has
pub record Row : Type 0 where
  pub text : List ℕ
  pub bytes : ℕ

-- the directives
abbrev pub row_of : Directive → Row
row_of Byte = record { text = codes ".byte"; bytes = 1 }
row_of Word = record { text = codes ".word"; bytes = 4 }
row_of Dword = record { text = codes ".dword"; bytes = 8 }
