-- The walk of homes by offsets, as the code walks. A place below the table's length is a byte of it, where the walk goes on. The length is
-- the end, and stands for "no such records here" too, since nothing is found there. A place above it is a fault: 1 more than the length,
-- and the byte of the class at fault; nothing goes on from there. The code answers such a fault as Err of the byte, and else Ok of the
-- place: `Told` ties both to the place here. It is the rules' own walk (proofs/TieFragments).
use Rattle.std.specs.Prelude.{ℕ, zero, suc, ◌+◌, ◌-◌, List, [], ◌∷◌, Bool, true, false, not, ◌&&◌, length, get_or, set, replicate}
use Rattle.std.specs.Prelude.{ltb, leb, eqb}
use Rattle.table_offsets.specs.Bodies.{body_mark}
use Rattle.table_offsets.specs.Check.{pick_n, pick_b, inside, byte_at, u64, head_fault, says_at}

-- where a walk ends that finds no such record
unfoldable pub nowhere : List ℕ → ℕ → ℕ
nowhere t at = pick_n (leb (length t) at) at (length t)

abbrev pub fault_at : List ℕ → ℕ → ℕ
fault_at t at = length t + 1 + at

-- a whole record of the kind k
unfoldable pub is_a : List ℕ → ℕ → ℕ → Bool
is_a t k at = eqb (head_fault t at) 0 && eqb (byte_at t at) k

unfoldable pub is_among : List ℕ → ℕ → ℕ → ℕ → Bool
is_among t low high at = eqb (head_fault t at) 0 && inside (byte_at t at) low high

-- the bytes of a whole class record, or 0 where none stands
unfoldable pub class_size : List ℕ → ℕ → ℕ
class_size t at = pick_n (is_among t 16 32 at) (1 + body_mark (byte_at t at)) 0

-- ranges and options are passed over

unfoldable pub behind_range : List ℕ → ℕ → ℕ
behind_range t at = pick_n (is_a t 33 at) (at + 18) (nowhere t at)

unfoldable pub behind_ranges : List ℕ → ℕ → ℕ → ℕ
behind_ranges t at zero = at
behind_ranges t at (suc n) = behind_ranges t (behind_range t at) n

unfoldable pub behind_option : List ℕ → ℕ → ℕ
behind_option t at = pick_n (is_a t 34 at) (behind_ranges t (at + 2) (byte_at t (at + 1))) (nowhere t at)

-- Homes by value: of each slot 0, or 1 more than the home of the classes that set it. A home is the byte of the innermost array's record,
-- or 0 for none: no class stands at byte 0

abbrev pub no_homes : List ℕ
no_homes = replicate 256 0

-- a class of another home has set the slot
unfoldable pub set_elsewhere : List ℕ → ℕ → ℕ → Bool
set_elsewhere v i home = pick_b (eqb (get_or v i 0) 0) false (not (eqb (get_or v i 0) (home + 1)))

unfoldable pub pick_l : Bool → List ℕ → List ℕ → List ℕ
pick_l true a b = a
pick_l false a b = b

-- "255 means none where a slot is set" (The class table)
unfoldable pub noted : List ℕ → ℕ → ℕ → List ℕ
noted v i home = pick_l (eqb i 255) v (set v i (home + 1))

-- a place, and the homes so far
abbrev pub Spot : Type 0
Spot = ℕ × List ℕ

unfoldable pub pick_p : Bool → Spot → Spot → Spot
pick_p true a b = a
pick_p false a b = b

-- What a class holds

-- the home of what the class at `at` holds, which has a home itself
unfoldable pub home_within : List ℕ → ℕ → ℕ → ℕ
home_within t home at = pick_n (eqb (byte_at t at) 29) at (pick_n (eqb (byte_at t at) 30) at home)

unfoldable pub parts : List ℕ → ℕ → ℕ
parts t at =
    pick_n (eqb (byte_at t at) 28) (byte_at t (at + 1))
    (pick_n (eqb (byte_at t at) 32) (byte_at t (at + 2)) (pick_n (inside (byte_at t at) 29 31) 1 0))

-- where the next class stands that the one at `at` holds: behind ranges, behind an option with its ranges, or at once
unfoldable pub part_at : List ℕ → ℕ → ℕ → ℕ
part_at t at next =
    pick_n (eqb (byte_at t at) 31) (behind_ranges t next (byte_at t (at + 2))) (pick_n (eqb (byte_at t at) 32) (behind_option t next) next)

unfoldable pub parts_at : (ℕ → List ℕ → Spot) → (ℕ → ℕ) → Spot → ℕ → Spot
parts_at f g p zero = p
parts_at f g p (suc n) = parts_at f g (f (g p.0) p.1) n

-- the class at `at` with so many depths left, its own among them, and one more, at which its record alone is looked at
unfoldable pub class_at : ℕ → List ℕ → ℕ → ℕ → List ℕ → Spot
class_at zero t home at v = (nowhere t at, v)
class_at (suc d) t home at v =
    pick_p (is_among t 16 32 at)
    (pick_p (set_elsewhere v (says_at t at).sets home)
    (fault_at t at, v)
    (parts_at (class_at d t (home_within t home at)) (part_at t at)
    (at + 1 + body_mark (byte_at t at), noted v (says_at t at).sets home) (parts t at)))
    (nowhere t at, v)

-- roots, whatever their numbers
unfoldable pub roots_at : List ℕ → Spot → ℕ → Spot
roots_at t p zero = p
roots_at t p (suc n) = pick_p (is_a t 6 p.0) (roots_at t (class_at 9 t 0 (p.0 + 2) p.1) n) p

abbrev pub all_roots_at : List ℕ → ℕ → List ℕ → Spot
all_roots_at t at v = roots_at t (at, v) (length t - at)

-- Fragments

-- what the roots from `before` on set, and with that the roots from `at` on
unfoldable pub homes_of : List ℕ → ℕ → List ℕ
homes_of t before = (roots_at t (before, no_homes) (length t - before)).1

unfoldable pub fragment_at : List ℕ → ℕ → ℕ → ℕ
fragment_at t before at = (roots_at t (at, homes_of t before) (length t - at)).0

-- where the roots of the latest stream class of the id i begin, of those at these places; if there is none, where no root stands
unfoldable pub stream_roots : List ℕ → ℕ → List ℕ → ℕ
stream_roots t i [] = length t
stream_roots t i (o ∷ os) = pick_n (eqb (u64 t (o + 1)) i) (o + 10) (stream_roots t i os)

-- the roots that the fragment at `at` has before its own: those of the header, or of its stream class
unfoldable pub roots_before : List ℕ → ℕ → List ℕ → ℕ → ℕ
roots_before t header os at =
    pick_n (eqb (byte_at t at) 4) header (pick_n (eqb (byte_at t at) 5) (stream_roots t (u64 t (at + 1)) os) (length t))

unfoldable pub header_with : List ℕ → ℕ → ℕ → ℕ
header_with t header at = pick_n (eqb (byte_at t at) 2) (at + 18) header

unfoldable pub streams_with : List ℕ → List ℕ → ℕ → List ℕ
streams_with t os at = pick_l (eqb (byte_at t at) 4) (at ∷ os) os

unfoldable pub fragments_at : List ℕ → ℕ → List ℕ → ℕ → ℕ → ℕ
fragments_at t header os at zero = at
fragments_at t header os at (suc n) =
    pick_n (is_among t 1 5 at)
    (fragments_at t (header_with t header at) (streams_with t os at)
    (fragment_at t (roots_before t header os at) (at + 1 + body_mark (byte_at t at))) n)
    (nowhere t at)

unfoldable pub fault_of : List ℕ → ℕ → ℕ
fault_of t r = pick_n (ltb (length t) r) (r - length t - 1) (length t)

-- the byte of the first class at fault, or the length where there is none
unfoldable pub first_home_fault : List ℕ → ℕ
first_home_fault t = fault_of t (fragments_at t (length t) [] 0 (length t))
