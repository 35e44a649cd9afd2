-- How long a stream may be. "Raise the stream limit to 536,870,911 bytes" (02, 4): "stream empty or over" so many "bytes; 0 entries, place
-- 0" is 21. It is said of every stream by its length. The number stands here by itself, so that the rules are held to it.
use Rattle.std.specs.Prelude.{◌≡◌, ◌⊎◌, ◌↔◌, ℕ, ◌<◌, List, length}
use Rattle.rules.specs.declared.Report.{Report}
use Rattle.rules.specs.Table.{Table}
use Rattle.rules.specs.Parse.{good, parse}
use Rattle.rules.specs.Read.{result_of, read_all}

abbrev pub refused_by_size : Report
refused_by_size = record { number = 21; entries = 0; place = 0; first = 0; second = 0 }

-- by a table x that is accepted ("20 comes before 21."), with any room: this is the answer to such a stream, and to no other
abbrev pub StreamSizes : Type 0
StreamSizes = (x : List ℕ) (t : Table) (y : List ℕ) → parse x ≡ good t y → (b : List ℕ) (room : ℕ)
    → (result_of (read_all x b room) ≡ refused_by_size) ↔ ((length b ≡ 0) ⊎ (536_870_911 < length b))
