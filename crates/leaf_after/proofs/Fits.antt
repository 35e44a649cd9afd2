-- What is seen of a leaf in a frame fits what is done with it.
use Rattle.std.specs.Prelude.{Ok, Option, Result}
use Rattle.rules.specs.declared.Refusal.{Refusal}
use mathlib.Core.Path.{◌≡◌, refl}
use mathlib.Core.List.{List}
use mathlib.Core.Bool.{Bool, true, false}
use Prim.Native.Nat.{ℕ, ◌+◌, ◌/◌, ◌^◌, ◌<◌, ◌≤◌}
use native.Mathlib.Omega.{arith}
use lib.Dec.{ltb, eqb}
use lib.ListN.{take, drop}
use borrow.Author.Tests.{ltb-false}
use Rattle.rules.specs.declared.BitPlace.{BitPlace}
use Rattle.rules.specs.declared.Order.{Order}
use Rattle.rules.specs.declared.Content.{Content}
use Rattle.rules.specs.declared.Content.TheVariants.{Unset, Flag, Unsigned, Signed}
use Rattle.rules.specs.Limits.{length_limit}
use Rattle.rules.specs.Class.{Sort}
use Rattle.rules.specs.Field.{same_bytes, value_of}
use Rattle.facts.specs.Bytes.{Bytes}
use Rattle.frame.specs.declared.Frame.{Frame}
use Rattle.leaf_find_number.specs.declared.Found.{Found}
use Rattle.leaf_find_number.specs.declared.Found.TheVariants.{At, Refused}
use Rattle.frame.specs.Framed.{Framed}
use Rattle.leaf_find_number.specs.Found.{found_bits, found_unsigned, found_signed}
use Rattle.leaf_find_number.proofs.Lies.{bits-lie, unsigned-lies, signed-lies}
use Rattle.leaf_find_bytes.specs.Found.{Ends}
use Rattle.leaf_find_bytes.proofs.Lies.{ends_at}
use Rattle.slots.specs.Taken.{length_of}
use Rattle.leaf_after.specs.Seeing.{Told, Fits, seen, fixed_seen, leb_seen, plain_seen, uuid_seen, blob_seen}

seen-fits : (x : Found) (m : Told) → ((p : BitPlace) (n v : ℕ) → x ≡ At n p v → Fits (m p n v)) → Fits (seen x m)
unfolding seen Fits
seen-fits (At n p v) m h = h p n v refl
seen-fits (Refused p r) m h = tt

-- what has no role, or another than the clock's
no-stamp : {A : Type 0} → ◌≡◌ {A = ℕ} 0 7 → A
no-stamp e = absurd (omega arith)

-- m is the number of the leaf's record
module _ {b : List ℕ} {f : Frame} {from : BitPlace} (framed : Framed b f from) (m : ℕ) where
  -- only a number that is listed as it was found has a role
  pub fixed-fits : (last : Option Order) (n : ℕ) (o : Order) (a : ℕ) (k : Sort) (i r : ℕ) → (r ≡ 7 → (w v : ℕ) → value_of k w v ≡ v)
      → Fits (seen (found_bits b f from last n o a) (fixed_seen m k o i r))
  unfolding Fits fixed_seen
  fixed-fits last n o a k i r same = seen-fits _ _ (λ p w v at.
      let lies = bits-lie framed at last n o a refl in
      (lies.0, λ e. rw (same e w v) lies.1))

  pub unsigned-fits : Bytes b → (o : Option Order) (i r : ℕ) → Fits (seen (found_unsigned b f from) (leb_seen m 21 Unsigned o i r))
  unfolding Fits leb_seen
  unsigned-fits h o i r = seen-fits _ _ (λ p w v at. let lies = unsigned-lies framed at h refl in (lies.0, λ e. lies.1))

  pub signed-fits : (o : Option Order) (i : ℕ) → Fits (seen (found_signed b f from) (leb_seen m 22 Signed o i 0))
  unfolding Fits leb_seen
  signed-fits o i = seen-fits _ _ (λ p w v at. (signed-lies framed at refl, λ e. no-stamp e))

module _ (m k : ℕ) (o : Option Order) (p : BitPlace) (n v : ℕ) (h : p.0 + n < 2 ^ 64) where
  plain_at : Fits (plain_seen m k o p n v)
  unfolding Fits plain_seen
  plain_at = (h, λ e. no-stamp e)

pub plain_fits : (m k : ℕ) (o : Option Order) (x : Found) → Ends x → Fits (seen x (plain_seen m k o))
plain_fits m k o x h = seen-fits x _ (λ p n v at. plain_at m k o p n v (ends_at at h))

module _ (m : ℕ) (b u : List ℕ) (o : Option Order) where
  uuid-at : (p : BitPlace) (n v : ℕ) → p.0 + n < 2 ^ 64 → Fits (uuid_seen m b u o p n v)
  unfolding Fits uuid_seen
  uuid-at p n v l = by (same_bytes (take v (drop (p.0 / 8) b)) u) refl
    where
      by : (t : Bool) → same_bytes (take v (drop (p.0 / 8) b)) u ≡ t → Fits (uuid_seen m b u o p n v)
      by true e = rw (e, uuid_seen) (plain_at m 25 o p n v l)
      by false e = rw (e, uuid_seen) l

  blob-at : (r : ℕ) (p : BitPlace) (n v : ℕ) → p.0 + n < 2 ^ 64 → Fits (blob_seen m b u r o p n v)
  unfolding blob_seen
  blob-at r p n v l = by (eqb r 4) refl
    where
      by : (t : Bool) → eqb r 4 ≡ t → Fits (blob_seen m b u r o p n v)
      by true e = rw (e, blob_seen) (uuid-at p n v l)
      by false e = rw (e, blob_seen) (plain_at m 25 o p n v l)

  pub blob-fits : (r : ℕ) (x : Found) → Ends x → Fits (seen x (blob_seen m b u r o))
  blob-fits r x h = seen-fits x _ (λ p n v at. blob-at r p n v (ends_at at h))

-- A length that a slot gives, or none

pub length-small : (c : Content) {x : Result ℕ Refusal} {n : ℕ} → x ≡ length_of c → x ≡ Ok n → n ≤ length_limit
unfolding length_of
length-small Unset is e = let z : ◌≡◌ {A = ℕ} 0 1 = cc in absurd (omega arith)
length-small (Flag t) is e = let z : ◌≡◌ {A = ℕ} 0 1 = cc in absurd (omega arith)
length-small (Unsigned k) {x} {n} is e = by (ltb length_limit k) refl
  where
    by : (t : Bool) → ltb length_limit k ≡ t → n ≤ length_limit
    by true h = let z : ◌≡◌ {A = ℕ} 0 1 = cc in absurd (omega arith)
    by false h = let same : k ≡ n = cc in rw (← same) (ltb-false length_limit k h)
length-small (Signed k) is e = let z : ◌≡◌ {A = ℕ} 0 1 = cc in absurd (omega arith)
