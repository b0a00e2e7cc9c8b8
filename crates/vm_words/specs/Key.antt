-- The keys of a line, with the limits and the defaults of numbers (this project's own, docs/COMMAND_LINE.md).
use Rattle.std.specs.Prelude.{ℕ, ◌-◌, ◌^◌, List, codes}
use Rattle.ram_block.specs.declared.limits.TheConstants.{MAX_PHASE, MAX_RAM}
use Rattle.ram_block.specs.declared.shape.TheConstants.{MAX_VCPUS, MAX_BLOCKS, MAX_PAGES}
use Rattle.vm_words.specs.declared.key.Quantity.{Quantity}
use Rattle.vm_words.specs.declared.key.Quantity.TheVariants.{Vcpus, Blocks, Pages, Stop, Run, Seed, Relay, At, Len}
use Rattle.vm_words.specs.declared.key.KeyName.{KeyName}
use Rattle.vm_words.specs.declared.key.KeyName.TheVariants.{Image, Out, In, Mode, Turns, Serial, Number}

-- how the key of a number is written
abbrev pub quantity_text : Quantity → List ℕ
quantity_text Vcpus = codes "vcpus"
quantity_text Blocks = codes "blocks"
quantity_text Pages = codes "pages"
quantity_text Stop = codes "stop"
quantity_text Run = codes "run"
quantity_text Seed = codes "seed"
quantity_text Relay = codes "relay"
quantity_text At = codes "at"
quantity_text Len = codes "len"

-- how a key is written
abbrev pub key_text : KeyName → List ℕ
key_text Image = codes "image"
key_text Out = codes "out"
key_text In = codes "in"
key_text Mode = codes "mode"
key_text Turns = codes "turns"
key_text Serial = codes "serial"
key_text (Number quantity) = quantity_text quantity

-- the least number of each
abbrev pub least_of : Quantity → ℕ
least_of Vcpus = 1
least_of Blocks = 1
least_of Pages = 1
least_of Stop = 0
least_of Run = 0
least_of Seed = 0
least_of Relay = 0
least_of At = 0
least_of Len = 1

-- the greatest number of each
abbrev pub most_of : Quantity → ℕ
most_of Vcpus = MAX_VCPUS
most_of Blocks = MAX_BLOCKS
most_of Pages = MAX_PAGES
most_of Stop = MAX_PHASE
most_of Run = MAX_PHASE
most_of Seed = 2 ^ 64 - 1
most_of Relay = 64
most_of At = MAX_RAM - 1
most_of Len = 4096

-- the number where the key isn't given; `at` and `len` are always given
abbrev pub default_of : Quantity → ℕ
default_of Vcpus = 1
default_of Blocks = 1
default_of Pages = 256
default_of Stop = 0
default_of Run = 0
default_of Seed = 0
default_of Relay = 0
default_of At = 0
default_of Len = 1
