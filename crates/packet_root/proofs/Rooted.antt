-- A root that was looked for: one that is there is read as the one member that it is, and one that is not is passed over.
use Rattle.std.specs.Prelude.{Some, None, Option, Ok}
use mathlib.Core.Path.{◌≡◌, refl}
use Prim.Native.Nat.{ℕ, ◌-◌}
use native.Mathlib.Omega.{arith}
use mathlib.Core.List.{List, []}
use lib.ListN.{length}
use Rattle.rules.specs.Limits.{slot_count, depth_limit}
use Rattle.rules.specs.Slots.{Slots}
use Rattle.rules.specs.Entry.{words}
use Rattle.rules.specs.Step.{◌⨾◌, pass}
use Rattle.rules.specs.Field.{Env, read_members}
use Rattle.rules.specs.Packet.{read_root}
use Rattle.facts.proofs.Steps.{after-pass}
use Rattle.listing.specs.declared.Progress.{Progress}
use Rattle.listing.specs.Did.{full, out_of}
use Rattle.class_layout.specs.Numbers.{number_at}
use Rattle.class_layout.specs.Trees.{stood_at, members_at}
use Rattle.field_read.specs.declared.Field.{Field}
use Rattle.field_read.specs.Reads.{FieldReads}
use Rattle.event_turns.specs.Roots.{class_of, number_of}

module _ (t : List ℕ) (root : Option ℕ) (e : Env) (st : Progress) (l : Slots) where
  pub no-root : (ws : List ℕ) → length l ≡ slot_count → root ≡ None
      → FieldReads (read_root e (number_of t root) (class_of t root)) st l (record { went = Ok tt; used = 0; state = st; slots = l }) ws ws
  unfolding class_of read_root pass out_of words
  no-root ws n h =
      let all : length ws - 0 ≡ length ws = omega arith in
      record {
        did = record {
          listed = [];
          out = rw (h, all) refl;
          counted = refl;
          list = refl;
          room = omega arith;
          kept = λ w k. let z : ◌≡◌ {A = ℕ} 0 1 = cc in absurd (omega arith);
        };
        kept = λ v k. refl;
        many = n;
      }

  root-reads : (p : ℕ) → root ≡ Some p → (s : _)
      → read_members e (number_at t p) (members_at (stood_at depth_limit t) p 1) s ≡ read_root e (number_of t root) (class_of t root) s
  unfolding class_of number_of read_root read_members members_at ◌⨾◌
  root-reads p h s = rw (h) (after-pass _)

  pub a-root : (p : ℕ) {r : Field} {ws ws' : List ℕ} → root ≡ Some p
      → FieldReads (read_members e (number_at t p) (members_at (stood_at depth_limit t) p 1)) st l r ws ws'
      → FieldReads (read_root e (number_of t root) (class_of t root)) st l r ws ws'
  a-root p {r} {ws} {ws'} h did =
      record { did = rw (root-reads p h (full st l (length ws))) at did.did; kept = did.kept; many = did.many }
