-- The kinds of entries in words, and what is shown of each behind its numbers.
use Rattle.std.specs.Prelude.{ℕ, List, [], ◌∷◌, ◌++◌, get_or}
use Prim.Native.String.{String}
use Rattle.screen_number.specs.Number.{bytes, decimal}

-- what an entry's value is shown as, and what stands behind the numbers
pub data Shows : Type 0 where
  plain : Shows
  signed : Shows
  as_hex : Shows
  as_float : Shows
  as_seconds : Shows
  as_text : Shows
  as_bytes : Shows

pub record Row : Type 0 where
  pub name : List ℕ
  pub shows : Shows

unfoldable pub row : String → Shows → Row
row s h = record { name = bytes s; shows = h }

unfoldable pub unknown : Row
unknown = record { name = []; shows = plain }

-- by kind, from 0; kind 8 is that of salvage
unfoldable pub rows : List Row
rows =
    unknown
    ∷ row "packet" plain
    ∷ row "stream-class" plain
    ∷ row "lengths" plain
    ∷ row "event" plain
    ∷ row "event-class" plain
    ∷ row "clock" as_seconds
    ∷ row "packet-end" plain
    ∷ row "skipped" plain
    ∷ unknown ∷ unknown ∷ unknown ∷ unknown ∷ unknown ∷ unknown ∷ unknown
    ∷ row "bit-array" as_hex
    ∷ row "boolean" plain
    ∷ row "unsigned" plain
    ∷ row "signed" signed
    ∷ row "float" as_float
    ∷ row "leb128-unsigned" plain
    ∷ row "leb128-signed" signed
    ∷ row "string" as_text
    ∷ row "static-string" as_text
    ∷ row "static-blob" as_bytes
    ∷ row "dynamic-string" as_text
    ∷ row "dynamic-blob" as_bytes
    ∷ row "structure" plain
    ∷ row "static-array" plain
    ∷ row "dynamic-array" plain
    ∷ row "optional" plain
    ∷ row "variant" plain
    ∷ []

unfoldable pub row_of : ℕ → Row
row_of k = get_or rows k unknown

-- the word of a kind; a kind that has none is shown by its number, so that every entry can be told
unfoldable pub kind_number : ℕ → List ℕ
kind_number k = bytes "kind-" ++ decimal k

unfoldable pub named : ℕ → List ℕ → List ℕ
named k [] = kind_number k
named k (b ∷ bs) = b ∷ bs

unfoldable pub word : ℕ → List ℕ
word k = named k (row_of k).name
