-- Where a field stands that aligns before anything is told of it.
use mathlib.Core.Path.{◌≡◌, refl}
use Prim.Native.Nat.{ℕ, ◌≤◌, ◌<◌}
use borrow.Author.Tests.{lt-ltb, le-ltb}
use Rattle.rules.specs.declared.BitPlace.{BitPlace}
use Rattle.rules.specs.declared.Refusal.TheVariants.{PastBound}
use Rattle.rules.specs.Verdict.{stop_at}
use Rattle.frame.specs.declared.Frame.{Frame}
use Rattle.frame.specs.Framed.{aligned_at}
use Rattle.field_inside.specs.declared.look.Inside.{Inside}
use Rattle.field_inside.specs.declared.look.Inside.TheVariants.{Refused}
use Rattle.field_inside.specs.Inside.{within, standing}

module _ (f : Frame) (p : BitPlace) (i : Inside) where
  pub within-past : f.bound.0 < p.0 → Refused (stop_at PastBound f.bound) ≡ within f p i
  unfolding within
  within-past l = rw (lt-ltb _ _ l, within) refl

  pub within-fits : p.0 ≤ f.bound.0 → i ≡ within f p i
  unfolding within
  within-fits l = rw (le-ltb _ _ l, within) refl

pub standing-at : (f : Frame) (a : ℕ) (from p : BitPlace) (m : BitPlace → Inside) → p ≡ aligned_at f a from
    → within f p (m p) ≡ standing f a from m
unfolding standing
standing-at f a from p m e = rw (e) refl
