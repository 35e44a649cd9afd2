-- Packets stand on their own: from an accepted stream of two or more packets one whole packet is removed, and the rest reads as it did.
-- In order: a packet in a list, by its number; the list and the stream without it; the statement, of the rules; figures; and of two calls
-- of the reader.
use Rattle.std.specs.Prelude.{◌≡◌, ℕ, suc, ◌+◌, ◌-◌, ◌*◌, ◌/◌, ◌<◌, List, [], ◌∷◌, ◌++◌, map, Bool, true, false, ◌&&◌, length, take, drop, eqb}
use Rattle.rules.specs.declared.Entry.{Entry}
use Rattle.rules.specs.declared.Verdict.TheVariants.{Accepted}
use Rattle.rules.specs.Place.{bit_place}
use Rattle.rules.specs.declared.Report.{Report}
use Rattle.rules.specs.Entry.{entry, words, packet_starts, lengths_settled}
use Rattle.rules.specs.Verdict.{number_of}
use Rattle.rules.specs.Read.{read_all}
use Rattle.promises.specs.Cases.{preamble, stream_class, event_class, root, structure, boolean, optional, plain, stamped}
use Rattle.promises.specs.Demands.{Call, listed_by, came_behind, Contract}

-- A packet in a list

-- the entry 1 of packet k: "packet, P, 0, its number from 0"
unfoldable pub starts_packet : ℕ → Entry → Bool
starts_packet k e = eqb e.kind packet_starts && eqb e.value k

-- the entries before packet k, and those from it on
unfoldable pub before_packet : ℕ → List Entry → List Entry
before_packet k [] = []
before_packet k (e ∷ es) = elim (starts_packet k e) [ true ↦ [] | false ↦ e ∷ before_packet k es ]

unfoldable pub from_packet : ℕ → List Entry → List Entry
from_packet k [] = []
from_packet k (e ∷ es) = elim (starts_packet k e) [ true ↦ e ∷ es | false ↦ from_packet k es ]

-- its place P, which its entry 1 shows, and its total length, which its entry 3 shows: "3: place, total, content"
unfoldable pub place_in : List Entry → ℕ
place_in [] = 0
place_in (e ∷ es) = e.place.0

unfoldable pub total_in : List Entry → ℕ
total_in [] = 0
total_in (e ∷ es) = elim (eqb e.kind lengths_settled) [ true ↦ e.bits | false ↦ total_in es ]

unfoldable pub packets_in : List Entry → ℕ
packets_in [] = 0
packets_in (e ∷ es) = elim (eqb e.kind packet_starts) [ true ↦ suc (packets_in es) | false ↦ packets_in es ]

-- Without it

-- "later places lower by the packet's total length and later packet numbers lower by one"
unfoldable pub number_lower : Entry → ℕ
number_lower e = elim (eqb e.kind packet_starts) [ true ↦ e.value - 1 | false ↦ e.value ]

unfoldable pub lower : ℕ → Entry → Entry
lower total e = entry e.kind (bit_place (e.place.0 - total)) e.bits (number_lower e) e.number

-- "its list is the old one without that packet's entries"
unfoldable pub list_without : ℕ → List Entry → List Entry
list_without k es = before_packet k es ++ map (lower (total_in (from_packet k es))) (from_packet (suc k) es)

-- the stream without that packet's bytes, as its list shows them
unfoldable pub bytes_without : ℕ → List Entry → List ℕ → List ℕ
bytes_without k es b =
    take (place_in (from_packet k es) / 8) b ++ drop ((place_in (from_packet k es) + total_in (from_packet k es)) / 8) b

-- "From an accepted stream of two or more packets remove one whole packet. The remaining stream is accepted with the same room": a table
-- x, a stream b, a room, and the number k of any of its packets

abbrev pub Apart : Type 0
Apart = (x b : List ℕ) (room k : ℕ) → number_of (read_all x b room).verdict ≡ 0
    → 1 < packets_in (read_all x b room).entries → k < packets_in (read_all x b room).entries
    → read_all x (bytes_without k (read_all x b room).entries b) room
    ≡ record {
      entries = list_without k (read_all x b room).entries;
      verdict = Accepted (bit_place (8 * length b - total_in (from_packet k (read_all x b room).entries)));
    }

-- Figures. Three packets of two bytes, each with one event of a stamp: what is left without each, and the list without the middle one.
-- And a packet that states its total length before one that states none

unfoldable pub three_packets : List ℕ
three_packets = 16 ∷ 10 ∷ 16 ∷ 20 ∷ 16 ∷ 30 ∷ []

abbrev pub their_list : List Entry
their_list = (read_all stamped three_packets 500).entries

-- a packet context of a flag and, where it is set, a total length; events of a byte
abbrev pub maybe_stated : List ℕ
maybe_stated =
    preamble ++ stream_class 0 255 ++ root 1 ++ structure 2 ++ boolean 0 ++ optional 0 0 ++ plain 255 5
    ++ event_class 0 0 ++ root 5 ++ structure 1 ++ plain 255 0

unfoldable pub last_unstated : List ℕ
last_unstated = 1 ∷ 24 ∷ 5 ∷ 0 ∷ 7 ∷ []

abbrev pub unstated_list : List Entry
unstated_list = (read_all maybe_stated last_unstated 500).entries

pub record ApartFigures : Type 0 where
  pub three : packets_in their_list ≡ 3
  pub without-first : bytes_without 0 their_list three_packets ≡ 16 ∷ 20 ∷ 16 ∷ 30 ∷ []
  pub without-middle : bytes_without 1 their_list three_packets ≡ 16 ∷ 10 ∷ 16 ∷ 30 ∷ []
  pub without-last : bytes_without 2 their_list three_packets ≡ 16 ∷ 10 ∷ 16 ∷ 20 ∷ []
  pub list : list_without 1 their_list ≡ (read_all stamped (16 ∷ 10 ∷ 16 ∷ 30 ∷ []) 500).entries
  pub two : packets_in unstated_list ≡ 2
  pub without-stated : bytes_without 0 unstated_list last_unstated ≡ 0 ∷ 7 ∷ []
  pub without-unstated : bytes_without 1 unstated_list last_unstated ≡ 1 ∷ 24 ∷ 5 ∷ []

-- The same of two calls, by one table: of a stream b, and of a stream b' that is b without the packet k of the first call's list, with
-- lists of one length. The first was accepted, with two packets or more

abbrev pub result_without : ℕ → List ℕ → List Entry → Report
result_without k b es = record {
  number = 0;
  entries = length (list_without k es);
  place = 8 * length b - total_in (from_packet k es);
  first = 0;
  second = 0;
}

pub record PacketRemoved (k : ℕ) (b : List ℕ) (c d : Call) : Type 0 where
  pub result : d.result ≡ result_without k b (listed_by c)
  pub list : d.after ≡ words (list_without k (listed_by c)) ++ came_behind (length (list_without k (listed_by c))) d

abbrev pub ApartCalls : List ℕ → List ℕ → Call → Call → Type 0
ApartCalls b b' c d =
    (k : ℕ) → c.result.number ≡ 0 → 1 < packets_in (listed_by c) → k < packets_in (listed_by c)
    → b' ≡ bytes_without k (listed_by c) b → length d.before ≡ length c.before → PacketRemoved k b c d

-- of every two calls that meet the contract
abbrev pub ApartOfCalls : Type 0
ApartOfCalls = (x b b' : List ℕ) (c d : Call) → Contract x b c → Contract x b' d → ApartCalls b b' c d

-- and of two, as `promises_calls::read_without` ensures it
pub record TwoStreams (x b b' : List ℕ) (c d : Call) : Type 0 where
  pub first : Contract x b c
  pub second : Contract x b' d
  pub apart : ApartCalls b b' c d
