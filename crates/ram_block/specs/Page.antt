-- A page of RAM, as the list of its bytes.
use Rattle.std.specs.Prelude.{ℕ, List, replicate}
use Rattle.ram_block.specs.declared.page_buf.TheConstants.{PAGE}

-- a page of zeros
unfoldable pub zero_page : List ℕ
zero_page = replicate PAGE 0
