-- A root's place stays in the frame, and a packet's root leaves slots 16 to 63 unset; and what an event's loop keeps.
use Rattle.rules.specs.declared.Stop.{Stop}
use Rattle.std.specs.Prelude.{Option, None, Some, Ok, Result, ⊤}
use mathlib.Core.Path.{◌≡◌, refl, ◌∙◌}
use Prim.Native.Nat.{ℕ, ◌-◌, ◌≤◌}
use native.Mathlib.Omega.{arith}
use mathlib.Core.List.{List}
use lib.ListN.{length}
use Rattle.rules.specs.declared.Entry.{Entry}
use Rattle.rules.specs.Slots.{Slots, packet_slots}
use Rattle.rules.specs.Class.{Class}
use Rattle.rules.specs.Step.{State, go, Step, pass}
use Rattle.rules.specs.Field.{Env}
use Rattle.rules.specs.Packet.{read_root}
use Rattle.laws.specs.Kept.{LeavesUnset}
use Rattle.laws.proofs.Between.{read_between}
use Rattle.frame.specs.declared.Frame.{Frame}
use Rattle.listing.specs.declared.Progress.{Progress}
use Rattle.frame.specs.Framed.{Framed, env_of}
use Rattle.listing.specs.Did.{Did, full, out_of}
use Rattle.listing.proofs.Parts.{Part}

-- the place of a root that went on
pub root-between : (e : Env) (m : ℕ) (c : Option Class) (s : State) (es : List Entry) (s' : State)
    → e.start.0 ≤ s.place.0 → s.place.0 ≤ e.bound.0 → read_root e m c s ≡ go es s'
    → (s.place.0 ≤ s'.place.0) × (s'.place.0 ≤ e.bound.0)
unfolding read_root pass
root-between e m None s es s' h k q = let p : s ≡ s' = cc in rw (← p) (omega arith, k)
root-between e m (Some c) s es s' h k q = read_between e m c s es s' h k q

-- what stands behind a root that went on: the frame, and a packet's slots
module _ (b u : List ℕ) (f : Frame) (m : ℕ) (c : Option Class) (l : Slots) {st st' : Progress} {l' : Slots} {n : ℕ} {ws ys : List ℕ}
    {went : Result ⊤ Stop} (on : went ≡ Ok tt) (did : Did (read_root (env_of b u f) m c (full st l (length ws))) st went n st' l' ws ys) where
  went_on : read_root (env_of b u f) m c (full st l (length ws)) ≡ go did.listed (full st' l' (length ws - n))
  unfolding out_of
  went_on = did.out ∙ rw (on) refl

  pub root-framed : Framed b f st.place → Framed b f st'.place
  root-framed h =
      let before = full st l (length ws) in
      let behind = full st' l' (length ws - n) in
      let p = root-between (env_of b u f) m c before did.listed behind h.begun h.within went_on in
      record { whole = h.whole; begun = omega (arith, p.0, h.begun); within = p.1; ends = h.ends; small = h.small }

  pub root-unset : LeavesUnset c → packet_slots l ≡ l → packet_slots l' ≡ l'
  root-unset keeps h = keeps (env_of b u f) m (full st l (length ws)) did.listed (full st' l' (length ws - n)) went_on h

-- m is what is left of M from `came` and l₀ on
pub record Parted (b : List ℕ) (f : Frame) (M m : Step) (came : Progress) (l₀ : Slots) (ws₀ ws : List ℕ) (used : ℕ) (st : Progress)
    (l : Slots) : Type 0 where
  pub framed : Framed b f st.place
  pub kept : packet_slots l ≡ packet_slots l₀
  pub part : Part (M (full came l₀ (length ws₀))) m ws₀ ws used st l
