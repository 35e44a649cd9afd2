-- A UUID's bytes, and what is seen of a BLOB that must have them. In order: lists that are the same; what is seen.
use Rattle.std.specs.Prelude.{Option}
use Rattle.rules.specs.declared.Order.{Order}
use mathlib.Core.Path.{◌≡◌, refl, sym, ap, ◌∙◌}
use mathlib.Core.List.{List, [], ◌∷◌}
use mathlib.Core.Bool.{Bool, true, false}
use Prim.Native.Nat.{ℕ, ◌+◌, ◌-◌, ◌/◌, ◌≤◌}
use native.Mathlib.Omega.{arith}
use borrow.Author.Tests.{eq-eqb, ne_eqb}
use lib.Dec.{eqb}
use lib.Pointwise.{pointwise}
use mathlib.Core.Bool.{◌&&◌}
use lib.ListN.{length, take, drop}
use Rattle.rules.specs.declared.BitPlace.{BitPlace}
use Rattle.rules.specs.declared.ByteLength.{ByteLength}
use Rattle.rules.specs.Place.{byte_length}
use Rattle.rules.specs.Entry.{entry}
use Rattle.rules.specs.Field.{same_bytes}
use Rattle.leaf_find_number.specs.declared.Found.{Found}
use Rattle.leaf_find_number.specs.declared.Found.TheVariants.{At, Refused}
use Rattle.leaf_after.specs.declared.Seen.TheVariants.{OtherUuid}
use Rattle.leaf_after.specs.Seeing.{seen, plain_seen, uuid_seen, blob_seen}
use Rattle.leaf_see_bytes.specs.InStream.{InStream}

-- bytes are the same as they are compared
same-pointwise : (xs ys : List ℕ) → pointwise eqb xs ys ≡ same_bytes xs ys
unfolding same_bytes
same-pointwise [] [] = refl
same-pointwise [] (y ∷ ys) = refl
same-pointwise (x ∷ xs) [] = refl
same-pointwise (x ∷ xs) (y ∷ ys) = ap (λ b. eqb x y && b) (same-pointwise xs ys)

-- so many bytes of a stream from one on
pub same-part : (stream uuid : List ℕ) (at count : ℕ)
    → pointwise eqb (take (at + count - at) (drop at stream)) uuid ≡ same_bytes (take count (drop at stream)) uuid
same-part stream uuid at count = let all : at + count - at ≡ count = omega arith in rw all (same-pointwise _ uuid)

-- A BLOB that was found lies in the stream

module _ (b : List ℕ) {x : Found} {p : BitPlace} {n v : ℕ} (found : x ≡ At n p v) {q : ByteLength} (byte : q ≡ byte_length (p.0 / 8)) where
  pub found_within : InStream b x → q.0 + v ≤ length b
  unfolding InStream
  found_within w = rw (byte) (rw (found) at w)

-- What is seen, of a record with the number m

module _ (m : ℕ) (b u : List ℕ) (o : Option Order) where
  -- x is what was found, and t what the code says of its bytes, from q on
  module _ {x : Found} (p : BitPlace) (n v : ℕ) (found : x ≡ At n p v) {q : ByteLength} (byte : q ≡ byte_length (p.0 / 8)) {t : Bool}
      (told : t ≡ same_bytes (take v (drop q.0 b)) u) where
    is : (y : Bool) → t ≡ y → same_bytes (take v (drop (p.0 / 8) b)) u ≡ y
    is y e = sym (rw (byte) at told) ∙ e

    pub uuid-seen : t ≡ true → seen (At n p v) (plain_seen m 25 o) ≡ seen x (uuid_seen m b u o)
    unfolding seen uuid_seen
    uuid-seen e = rw (found, is true e, uuid_seen) refl

    pub other-seen : t ≡ false → OtherUuid (entry 25 p n v m) ≡ seen x (uuid_seen m b u o)
    unfolding seen uuid_seen
    other-seen e = rw (found, is false e, uuid_seen) refl

  -- by the role
  pub role-seen : (r : ℕ) (x : Found) → r ≡ 4 → seen x (uuid_seen m b u o) ≡ seen x (blob_seen m b u r o)
  unfolding seen blob_seen
  role-seen r (At n p v) e = rw (eq-eqb r 4 e, blob_seen) refl
  role-seen r (Refused p w) e = refl

  pub no-role-seen : (r : ℕ) (x : Found) → (r ≡ 4 → ⊥) → seen x (plain_seen m 25 o) ≡ seen x (blob_seen m b u r o)
  unfolding seen blob_seen
  no-role-seen r (At n p v) h = rw (ne_eqb r 4 h, blob_seen) refl
  no-role-seen r (Refused p w) h = refl
