-- What was found in whole bytes lies before the bound. In order: each kind; what the code rests on.
use Rattle.std.specs.Prelude.{Some, None, Option}
use Rattle.rules.specs.declared.ByteLength.{ByteLength}
use mathlib.Core.Path.{◌≡◌, refl, sym, ◌∙◌}
use mathlib.Core.List.{List}
use Prim.Native.Nat.{ℕ, ◌+◌, ◌-◌, ◌*◌, ◌/◌, ◌^◌, ◌<◌, ◌≤◌}
use native.Mathlib.Omega.{arith}
use lib.ListN.{length}
use Rattle.rules.specs.declared.BitPlace.{BitPlace}
use Rattle.rules.specs.Text.{zero_at}
use Rattle.text.proofs.Laws.{zero-found}
use Rattle.frame.specs.declared.Frame.{Frame}
use Rattle.leaf_find_number.specs.declared.Found.{Found}
use Rattle.leaf_find_number.specs.declared.Found.TheVariants.{At, Refused}
use Rattle.frame.specs.Framed.{Framed, aligned_at}
use Rattle.leaf_find_number.specs.Found.{within, bytes_ahead}
use Rattle.leaf_find_number.proofs.Lies.{unless-found, within-found, ahead-length, below-bound}
use Rattle.leaf_find_bytes.specs.Found.{Ends, of_text, found_zero, found_string, found_blob, found_text}

module _ (f : Frame) (p : BitPlace) (m v : ℕ) where
  zero-lies : (b bs : List ℕ) (from q : BitPlace) (x : Option ByteLength) → x ≡ zero_at bs → length bs ≤ (f.bound.0 - q.0) / 8 → q.0 ≤ f.bound.0
      → found_zero b from q x ≡ At m p v → p.0 + m ≤ f.bound.0
  unfolding found_zero of_text
  zero-lies b bs from q (Some n) is h l e =
      let same = unless-found f p m v _ _ _ _ e in
      let place : q ≡ p = cc in
      let width : 8 * (n.0 + 1) ≡ m = cc in
      rw (← place, ← width) (omega (arith, (zero-found bs n (sym is)).0))
  zero-lies b bs from q None is h l e = let z : ◌≡◌ {A = ℕ} 0 1 = cc in absurd (omega arith)

  -- so many bytes from a place on, whatever they say
  bytes-lie : (q : BitPlace) (n w : ℕ) → q.0 + 8 * n ≤ f.bound.0 → At (8 * n) q w ≡ At m p v
      → (p.0 + m ≤ f.bound.0) × (m ≡ 8 * n) × (v ≡ w)
  bytes-lie q n w fits same =
      let place : q ≡ p = cc in
      let width : 8 * n ≡ m = cc in
      let value : w ≡ v = cc in
      rw (← place, ← width, ← value) (fits, refl, refl)

  bytes-found : (q : BitPlace) (n : ℕ) (x : Found) → within f q 0 (within f q (8 * n) x) ≡ At m p v
      → (q.0 + 8 * n ≤ f.bound.0) × (x ≡ At m p v)
  bytes-found q n x e = within-found f p m v q (8 * n) x (within-found f p m v q 0 _ e).1

  string-found : (b : List ℕ) (from : BitPlace) → found_string b f from ≡ At m p v → p.0 + m ≤ f.bound.0
  unfolding found_string
  string-found b from e =
      let q = aligned_at f 8 from in
      let inside = within-found f p m v q 0 _ e in
      zero-lies b (bytes_ahead b f q) from q _ refl (ahead-length b f q) (omega (arith, inside.0)) inside.1

  blob-found : (from : BitPlace) (n : ℕ) → found_blob f from n ≡ At m p v → (p.0 + m ≤ f.bound.0) × (m ≡ 8 * n) × (v ≡ n)
  unfolding found_blob
  blob-found from n e =
      let q = aligned_at f 8 from in
      let inside = bytes-found q n _ e in
      bytes-lie q n n inside.0 inside.1

  text-found : (b : List ℕ) (from : BitPlace) (n : ℕ) → found_text b f from n ≡ At m p v → p.0 + m ≤ f.bound.0
  unfolding found_text of_text
  text-found b from n e =
      let q = aligned_at f 8 from in
      let inside = bytes-found q n _ e in
      (bytes-lie q n _ inside.0 (unless-found f p m v _ _ _ _ inside.1)).0

-- What the code rests on: x is what was found in a frame

module _ {b : List ℕ} {f : Frame} {from : BitPlace} (framed : Framed b f from) where
  module _ {x : Found} {p : BitPlace} {m v : ℕ} (at : x ≡ At m p v) where
    pub blob-lies : (n : ℕ) → x ≡ found_blob f from n → (p.0 + m < 2 ^ 64) × (p.0 / 8 + n ≤ length b) × (v ≡ n)
    blob-lies n is =
        let found = blob-found f p m v from n (sym is ∙ at) in
        (below-bound framed _ found.0, omega (arith, found.0, found.1, framed.ends), found.2)

  ends_of : (x : Found) → ((p : BitPlace) (m v : ℕ) → x ≡ At m p v → p.0 + m ≤ f.bound.0) → Ends x
  unfolding Ends
  ends_of (At m p v) h = below-bound framed _ (h p m v refl)
  ends_of (Refused p r) h = tt

  pub string-ends : {x : Found} → x ≡ found_string b f from → Ends x
  string-ends {x} e = ends_of x (λ p m v is. string-found f p m v b from (sym e ∙ is))

  pub blob-ends : (n : ℕ) {x : Found} → x ≡ found_blob f from n → Ends x
  blob-ends n {x} e = ends_of x (λ p m v is. (blob-found f p m v from n (sym e ∙ is)).0)

  pub text-ends : (n : ℕ) {x : Found} → x ≡ found_text b f from n → Ends x
  text-ends n {x} e = ends_of x (λ p m v is. text-found f p m v b from n (sym e ∙ is))

pub ends_at : {x : Found} {p : BitPlace} {m v : ℕ} → x ≡ At m p v → Ends x → p.0 + m < 2 ^ 64
unfolding Ends
ends_at e h = rw (e) at h
