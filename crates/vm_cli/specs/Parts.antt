-- A line as parts that are written one after the other (this project's own).
use Rattle.std.specs.Prelude.{◌≡◌, ℕ, List, ◌++◌, take, codes}
use Rattle.std.specs.Fmt.{decimal}
use Rattle.std.specs.List.{flat_map}
use Rattle.vm_cli.specs.declared.parts.Part.{Part}
use Rattle.vm_cli.specs.declared.parts.Part.TheVariants.{Text, Number}

-- the text of a part: a number in decimal digits
abbrev pub part_text : Part → List ℕ
part_text (Text text) = text.now
part_text (Number n) = decimal n

-- the text of all parts
abbrev pub parts_text : List Part → List ℕ
parts_text parts = flat_map part_text parts

-- the line of an assembly (this project's own, docs/COMMAND_LINE.md)
abbrev pub assembled_line : ℕ → List ℕ
assembled_line n = codes "assembled " ++ decimal n ++ codes " bytes\n"

-- new is old with some of the first bytes of one text behind it, and then some of the first of another
abbrev pub AddsFronts : List ℕ → List ℕ → List ℕ → List ℕ → Type 0
AddsFronts first second old new = (m : ℕ) × (n : ℕ) × (new ≡ old ++ (take m first ++ take n second))

-- new is old with one text behind it, and then some of the first bytes of another
abbrev pub AddsBehind : List ℕ → List ℕ → List ℕ → List ℕ → Type 0
AddsBehind first second old new = (n : ℕ) × (new ≡ old ++ (first ++ take n second))
