-- The check by offsets, as the code walks: the number and the byte of the first record with a fault, or the byte behind what was walked.
-- It is the rules' own answer (proofs/TieCheck).
use Rattle.rules.specs.Verdict.{table_fault}
use Rattle.rules.specs.declared.TableFault.{TableFault}
use Rattle.rules.specs.declared.ByteLength.{ByteLength}
use Rattle.std.specs.Prelude.{ℕ, zero, suc, ◌+◌, ◌-◌, ◌*◌, ◌^◌, ◌%◌, List, [], ◌∷◌, Bool, true, false, not, ◌&&◌, ◌||◌, length, get_or, Ok, Err, Result}
use Rattle.std.specs.Prelude.{ltb, leb, eqb}
use Rattle.table_offsets.specs.Walks.{Walk, Fine, Bad}
use Rattle.rules.specs.Place.{byte_length}
use Rattle.table_offsets.specs.declared.Under.{Under}
use Rattle.table_offsets.specs.declared.Says.{Says}
use Rattle.table_offsets.specs.Bodies.{no_kind, body_mark}

-- a test's number, or else the next one's
unfoldable pub pick_n : Bool → ℕ → ℕ → ℕ
pick_n true a b = a
pick_n false a b = b

unfoldable pub pick_b : Bool → Bool → Bool → Bool
pick_b true a b = a
pick_b false a b = b

unfoldable pub pick_w : Bool → Walk → Walk → Walk
pick_w true a b = a
pick_w false a b = b

-- the first number that is not 0
unfoldable pub first : ℕ → ℕ → ℕ
first zero m = m
first (suc n) m = suc n

-- a record's number, or else what is behind it
unfoldable pub or_else : ℕ → ℕ → Walk → Walk
or_else zero at w = w
or_else (suc n) at w = Bad (suc n) at

unfoldable pub then : Walk → (ℕ → Walk) → Walk
then (Fine e) f = f e
then (Bad n p) f = Bad n p

-- records

abbrev pub byte_at : List ℕ → ℕ → ℕ
byte_at t i = get_or t i 0

-- numbers 2 and 3
unfoldable pub head_fault : List ℕ → ℕ → ℕ
head_fault t at =
    pick_n (leb (length t) at) 3
    (pick_n (eqb (body_mark (byte_at t at)) no_kind) 2 (pick_n (leb (length t - at) (body_mark (byte_at t at))) 3 0))

-- the number of n bytes from `at` on, little-endian
unfoldable pub number_at : List ℕ → ℕ → ℕ → ℕ
number_at t at zero = 0
number_at t at (suc n) = number_at t (at + 1) n * 256 + byte_at t at

unfoldable pub u16 : List ℕ → ℕ → ℕ
u16 t at = byte_at t at + 256 * byte_at t (at + 1)

unfoldable pub u64 : List ℕ → ℕ → ℕ
u64 t at = number_at t at 8

-- what a class record says

unfoldable pub bits_say : List ℕ → ℕ → ℕ → ℕ → ℕ → Says
bits_say t at k i r =
    record {
      kind = k;
      length = byte_at t (at + 1);
      order = byte_at t (at + 2);
      align = byte_at t (at + 3);
      sets = i;
      reads = 0;
      role = r;
      count = 1;
    }

unfoldable pub say : ℕ → ℕ → ℕ → ℕ → ℕ → ℕ → Says
say k i j r n a = record { kind = k; length = 1; order = 0; align = a; sets = i; reads = j; role = r; count = n }

-- by kind, from 16
unfoldable pub sayings : List (List ℕ → ℕ → Says)
sayings =
    (λ t at. bits_say t at 16 255 0)
    ∷ (λ t at. bits_say t at 17 (byte_at t (at + 4)) 0)
    ∷ (λ t at. bits_say t at 18 (byte_at t (at + 4)) (byte_at t (at + 5)))
    ∷ (λ t at. bits_say t at 19 (byte_at t (at + 4)) 0)
    ∷ (λ t at. bits_say t at 20 255 0)
    ∷ (λ t at. say 21 (byte_at t (at + 1)) 0 (byte_at t (at + 2)) 1 0)
    ∷ (λ t at. say 22 (byte_at t (at + 1)) 0 0 1 0)
    ∷ (λ t at. say 23 255 0 0 1 0)
    ∷ (λ t at. say 24 255 0 0 (u16 t (at + 1)) 0)
    ∷ (λ t at. say 25 255 0 (byte_at t (at + 3)) (u16 t (at + 1)) 0)
    ∷ (λ t at. say 26 255 (byte_at t (at + 1)) 0 1 0)
    ∷ (λ t at. say 27 255 (byte_at t (at + 1)) 0 1 0)
    ∷ (λ t at. say 28 255 0 0 (byte_at t (at + 1)) (byte_at t (at + 2)))
    ∷ (λ t at. say 29 255 0 0 (u16 t (at + 1)) (byte_at t (at + 3)))
    ∷ (λ t at. say 30 255 (byte_at t (at + 1)) 0 1 (byte_at t (at + 2)))
    ∷ (λ t at. say 31 255 (byte_at t (at + 1)) 0 (byte_at t (at + 2)) 0)
    ∷ (λ t at. say 32 255 (byte_at t (at + 1)) 0 (byte_at t (at + 2)) 0)
    ∷ []

unfoldable pub say_of : ℕ → List ℕ → ℕ → Says
say_of k = get_or sayings (k - 16) (λ t at. say 0 255 0 0 1 0)

unfoldable pub says_at : List ℕ → ℕ → Says
says_at t at = say_of (byte_at t at) t at

-- the numbers 9 to 14 of a class

unfoldable pub inside : ℕ → ℕ → ℕ → Bool
inside x low high = leb low x && leb x high

unfoldable pub length_ok : ℕ → ℕ → Bool
length_ok k n = pick_b (eqb k 20) (eqb n 32 || eqb n 64) (inside n 1 64)

unfoldable pub count_ok : ℕ → ℕ → Bool
count_ok k n =
    pick_b (eqb k 28) (leb n 64) (pick_b (eqb k 31) (leb n 16) (pick_b (eqb k 32) (inside n 1 32) true))

unfoldable pub number_fault : Says → ℕ
number_fault y =
    pick_n (length_ok y.kind y.length)
    (pick_n (ltb 1 y.order) 10
    (pick_n (ltb 6 y.align) 10
    (pick_n (inside y.sets 64 254) 10
    (pick_n (inside y.reads 64 254) 10
    (pick_n (ltb 11 y.role) 10
    (pick_n (count_ok y.kind y.count) 0 10))))))
    10

-- packet roots set and read slots 0 to 15; event roots set 16 to 63 and read any; 255 sets none, and is not read
unfoldable pub slot_fault : ℕ → ℕ → ℕ → ℕ
slot_fault r i j =
    pick_n (ltb r 2)
    (pick_n (ltb 15 j) 11 (pick_n (inside i 16 254) 11 0))
    (pick_n (ltb 63 j) 11 (pick_n (ltb i 16) 11 0))

unfoldable pub magic_ok : ℕ → ℕ → ℕ → ℕ → ℕ → Bool
magic_ok r k n start at = eqb r 0 && (eqb k 18 && (eqb n 32 && eqb at (start + 3)))

unfoldable pub blob_ok : ℕ → ℕ → ℕ → Bool → Bool
blob_ok role r n u = pick_b (eqb role 0) true (eqb role 4 && (eqb r 0 && (eqb n 16 && u)))

unfoldable pub clock_ok : ℕ → Bool → Bool
clock_ok r timed = pick_b (eqb r 1 || eqb r 2) timed false

unfoldable pub end_ok : ℕ → Bool → Bool
end_ok r timed = pick_b (eqb r 1) timed false

-- a role, by its number, on a field that is no BLOB
unfoldable pub number_ok : ℕ → Says → Under → ℕ → Bool
number_ok role y u at =
    pick_b (eqb role 0) true
    (pick_b (eqb role 1) (magic_ok u.root y.kind y.length u.start at)
    (pick_b (eqb role 2 || eqb role 3) (eqb u.root 0)
    (pick_b (eqb role 5 || (eqb role 6 || (eqb role 9 || eqb role 10))) (eqb u.root 1)
    (pick_b (eqb role 7) (clock_ok u.root u.timed)
    (pick_b (eqb role 8) (end_ok u.root u.timed)
    (pick_b (eqb role 11) (eqb u.root 2) false))))))

unfoldable pub role_ok : Says → Under → ℕ → Bool
role_ok y u at = pick_b (eqb y.kind 25) (blob_ok y.role u.root y.count u.uuid) (number_ok y.role y u at)

unfoldable pub kind_fault : ℕ → ℕ → ℕ → ℕ
kind_fault k start at = pick_n (eqb at start) (pick_n (eqb k 28) 0 9) (pick_n (inside k 16 32) 0 9)

unfoldable pub say_fault : Under → ℕ → ℕ → Says → ℕ
say_fault u left at y =
    first (number_fault y) (first (slot_fault u.root y.sets y.reads) (pick_n (role_ok y u at) (pick_n (eqb left 0) 14 0) 12))

-- the lowest number of the record at `at` as a class with so many depths left
unfoldable pub class_fault : Under → ℕ → List ℕ → ℕ → ℕ
class_fault u left t at =
    first (head_fault t at) (first (kind_fault (byte_at t at) u.start at) (say_fault u left at (says_at t at)))

-- ranges and options

unfoldable pub key : ℕ → ℕ → ℕ
key sign x = pick_n (eqb sign 0) x ((x + 9223372036854775808) % 2 ^ 64)

unfoldable pub low_at : List ℕ → ℕ → ℕ → ℕ
low_at t sign at = key sign (u64 t (at + 2))

unfoldable pub high_at : List ℕ → ℕ → ℕ → ℕ
high_at t sign at = key sign (u64 t (at + 10))

-- whether low to high meets the range at `at`
unfoldable pub meets_here : List ℕ → ℕ → ℕ → ℕ → ℕ → Bool
meets_here t sign low high at = leb low (high_at t sign at) && leb (low_at t sign at) high

-- one of the n ranges from `at` on
unfoldable pub meets_one : List ℕ → ℕ → ℕ → ℕ → ℕ → ℕ → Bool
meets_one t sign low high at zero = false
meets_one t sign low high at (suc n) =
    pick_b (meets_here t sign low high at) true (meets_one t sign low high (at + 18) n)

-- one of the ranges of the option at o
unfoldable pub meets_option : List ℕ → ℕ → ℕ → ℕ → ℕ → Bool
meets_option t sign low high o = meets_one t sign low high (o + 2) (byte_at t (o + 1))

-- or one of the options at these places
unfoldable pub meets_any : List ℕ → ℕ → ℕ → ℕ → List ℕ → Bool
meets_any t sign low high [] = false
meets_any t sign low high (o ∷ os) = pick_b (meets_option t sign low high o) true (meets_any t sign low high os)

-- number 13 of a range from low to high, where the first range of the optional or variant stands at `head`, and the earlier options at
-- `done`
unfoldable pub bounds_fault : List ℕ → ℕ → List ℕ → ℕ → ℕ → ℕ → ℕ
bounds_fault t head done sign low high =
    pick_n (ltb high low) 13 (pick_n (eqb (byte_at t (head + 1)) sign) (pick_n (meets_any t sign low high done) 13 0) 13)

unfoldable pub range_fault : List ℕ → ℕ → List ℕ → ℕ → ℕ
range_fault t head done at =
    first (head_fault t at)
    (pick_n (eqb (byte_at t at) 33)
    (pick_n (ltb 1 (byte_at t (at + 1))) 10
    (bounds_fault t head done (byte_at t (at + 1)) (low_at t (byte_at t (at + 1)) at) (high_at t (byte_at t (at + 1)) at)))
    9)

unfoldable pub option_fault : List ℕ → ℕ → ℕ
option_fault t at = first (head_fault t at) (pick_n (eqb (byte_at t at) 34) (pick_n (inside (byte_at t (at + 1)) 1 16) 0 10) 9)

unfoldable pub ranges_at : List ℕ → ℕ → List ℕ → ℕ → ℕ → Walk
ranges_at t head done at zero = Fine at
ranges_at t head done at (suc n) = or_else (range_fault t head done at) at (ranges_at t head done (at + 18) n)

-- classes

unfoldable pub members_at : (ℕ → Walk) → ℕ → ℕ → Walk
members_at f at zero = Fine at
members_at f at (suc n) = then (f at) λ e. members_at f e n

unfoldable pub options_at : (ℕ → Walk) → List ℕ → ℕ → List ℕ → ℕ → ℕ → Walk
options_at f t head done at zero = Fine at
options_at f t head done at (suc n) =
    or_else (option_fault t at) at
    (then (ranges_at t head done (at + 2) (byte_at t (at + 1))) λ p. then (f p) λ e. options_at f t head (at ∷ done) e n)

-- behind a sound record of the kind k, where f walks the classes one deeper
unfoldable pub kind_at : (ℕ → Walk) → List ℕ → ℕ → ℕ → Walk
kind_at f t at k =
    pick_w (eqb k 28) (members_at f (at + 3) (byte_at t (at + 1)))
    (pick_w (eqb k 29) (f (at + 4))
    (pick_w (eqb k 30) (f (at + 3))
    (pick_w (eqb k 31) (then (ranges_at t (at + 3) [] (at + 3) (byte_at t (at + 2))) f)
    (pick_w (eqb k 32) (options_at f t (at + 5) [] (at + 3) (byte_at t (at + 2)))
    (Fine (at + 1 + body_mark k))))))

-- the class at `at` with so many depths left, its own among them
unfoldable pub class_at : Under → ℕ → List ℕ → ℕ → Walk
class_at u zero t at = or_else (class_fault u 0 t at) at (Bad 14 at)
class_at u (suc d) t at = or_else (class_fault u (suc d) t at) at (kind_at (class_at u d t) t at (byte_at t at))

-- the first i of a list, the last of them in front
unfoldable pub latest : List ℕ → ℕ → List ℕ
latest xs zero = []
latest xs (suc i) = get_or xs i 0 ∷ latest xs i

-- roots

unfoldable pub root_here : List ℕ → ℕ → ℕ → Bool
root_here t n at = eqb (head_fault t at) 0 && (eqb (byte_at t at) 6 && eqb (byte_at t (at + 1)) n)

-- a root that the fragment does not want here
unfoldable pub stray : List ℕ → ℕ → ℕ
stray t at =
    pick_n (leb (length t) at) 0
    (pick_n (eqb (byte_at t at) 6) (first (head_fault t at) (pick_n (ltb (byte_at t (at + 1)) 6) 9 10)) 0)

unfoldable pub under : Bool → Bool → ℕ → ℕ → Under
under timed uuid n at = record { root = n; timed = timed; uuid = uuid; start = at }

-- the class of the root n, where that stands at `at`
unfoldable pub root_at : List ℕ → Bool → Bool → ℕ → ℕ → Walk
root_at t timed uuid n at = pick_w (root_here t n at) (class_at (under timed uuid n (at + 2)) 8 t (at + 2)) (Fine at)

-- m roots from the number n on, each there or not
unfoldable pub roots_at : List ℕ → Bool → Bool → ℕ → ℕ → ℕ → Walk
roots_at t timed uuid n at zero = or_else (stray t at) at (Fine at)
roots_at t timed uuid n at (suc m) =
    then (root_at t timed uuid n at) λ e. roots_at t timed uuid (n + 1) e m

-- fragments

-- n bytes from a on are those from b on
unfoldable pub same : List ℕ → ℕ → ℕ → ℕ → Bool
same t a b zero = true
same t a b (suc n) = eqb (byte_at t (a + n)) (byte_at t (b + n)) && same t a b n

-- the fragment at o is of the kind k and has the id of n bytes that stands at `at`
unfoldable pub is_named : List ℕ → ℕ → ℕ → ℕ → ℕ → Bool
is_named t k at n o = eqb (byte_at t o) k && same t (o + 1) at n

-- one of the fragments at these places
unfoldable pub named : List ℕ → ℕ → ℕ → ℕ → List ℕ → Bool
named t k at n [] = false
named t k at n (o ∷ os) = pick_b (is_named t k at n o) true (named t k at n os)

-- numbers 4 to 8 behind the preamble
unfoldable pub order_fault : List ℕ → Bool → List ℕ → ℕ → ℕ → ℕ
order_fault t trace seen at k =
    pick_n (eqb k 1) 4
    (pick_n (eqb k 2) (pick_n trace 6 (pick_n (named t 4 at 0 seen) 6 0))
    (pick_n (eqb k 3) (pick_n (named t 3 (at + 1) 1 seen) 7 0)
    (pick_n (eqb k 4)
    (pick_n (named t 4 (at + 1) 8 seen) 7 (pick_n (eqb (byte_at t (at + 9)) 255) 0 (pick_n (named t 3 (at + 9) 1 seen) 0 8)))
    (pick_n (eqb k 5) (pick_n (named t 5 (at + 1) 16 seen) 7 (pick_n (named t 4 (at + 1) 8 seen) 0 8)) 0))))

-- 9, 10 and 15 where a fragment is due, behind n of kinds 3, 4, 5
unfoldable pub open_fault : List ℕ → ℕ → ℕ → ℕ → ℕ
open_fault t n at k =
    pick_n (eqb k 2) (pick_n (ltb 1 (byte_at t (at + 1))) 10 0)
    (pick_n (eqb k 3)
    (pick_n (eqb (byte_at t (at + 1)) 255) 10 (pick_n (eqb (u64 t (at + 2)) 0) 10 (pick_n (ltb 511 n) 15 0)))
    (pick_n (eqb k 4 || eqb k 5) (pick_n (ltb 511 n) 15 0) 9))

unfoldable pub fragment_fault : List ℕ → Bool → List ℕ → ℕ → ℕ → ℕ
fragment_fault t trace seen n at =
    first (head_fault t at) (first (order_fault t trace seen at (byte_at t at)) (open_fault t n at (byte_at t at)))

-- the lowest number of a record that has the number m as a class, a root, a range or an option
unfoldable pub lowest : List ℕ → Bool → List ℕ → ℕ → ℕ → ℕ
lowest t trace seen m at = pick_n (ltb m 4) m (first (order_fault t trace seen at (byte_at t at)) m)

-- the roots behind the fragment at `at`
unfoldable pub roots_of : List ℕ → ℕ → ℕ → Walk
roots_of t at k =
    pick_w (eqb k 2) (roots_at t false (eqb (byte_at t (at + 1)) 1) 0 (at + 18) 1)
    (pick_w (eqb k 3) (roots_at t false false 0 (at + 10) 0)
    (pick_w (eqb k 4) (roots_at t (not (eqb (byte_at t (at + 9)) 255)) false 1 (at + 10) 3) (roots_at t false false 4 (at + 17) 2)))

-- what is seen with the fragment at `at`, of the kind k
unfoldable pub seen_with : ℕ → ℕ → List ℕ → List ℕ
seen_with at k seen = elim (eqb k 2) [ true ↦ seen | false ↦ at ∷ seen ]

unfoldable pub counted : ℕ → ℕ
counted k = pick_n (eqb k 2) 0 1

unfoldable pub traced : Bool → ℕ → Bool
traced trace k = pick_b (eqb k 2) true trace

unfoldable pub or_refused : ℕ → ℕ → Result ByteLength TableFault → Result ByteLength TableFault
or_refused zero at c = c
or_refused (suc n) at c = Err (table_fault (suc n) (byte_length at))

unfoldable pub then_checked : Walk → (ℕ → ℕ → Result ByteLength TableFault) → (ℕ → Result ByteLength TableFault) → Result ByteLength TableFault
then_checked (Fine e) g f = f e
then_checked (Bad n p) g f = g n p

-- fragments to the end; each takes bytes, so that as many rounds as there are bytes left are enough
unfoldable pub fragments_at : ℕ → List ℕ → Bool → List ℕ → ℕ → Result ByteLength TableFault
fragments_at zero t trace seen at = Ok (byte_length (length t))
fragments_at (suc left) t trace seen at =
    elim (ltb at (length t)) [
      | true ↦ or_refused (fragment_fault t trace seen (length seen) at) at
          (then_checked (roots_of t at (byte_at t at))
          (λ m p. Err (table_fault (lowest t (traced trace (byte_at t at)) (seen_with at (byte_at t at) seen) m p) (byte_length p)))
          (λ e. fragments_at left t (traced trace (byte_at t at)) (seen_with at (byte_at t at) seen) e))
      | false ↦ Ok (byte_length (length t))
    ]

unfoldable pub first_fault : List ℕ → ℕ
first_fault t = first (head_fault t 0) (pick_n (eqb (byte_at t 0) 1) (pick_n (eqb (byte_at t 1) 2) 0 5) 4)

-- the whole check
unfoldable pub checked_at : List ℕ → Result ByteLength TableFault
checked_at t =
    elim (eqb (length t) 0 || ltb 65536 (length t)) [
      | true ↦ Err (table_fault 1 (byte_length 0))
      | false ↦ or_refused (first_fault t) 0 (or_refused (stray t 2) 2 (fragments_at (length t - 2) t false [] 2))
    ]
