-- A walk is a loop over a run with nothing behind it: how it starts, and how it ends.
use Rattle.std.specs.Prelude.{Ok, Err}
use mathlib.Core.Path.{◌≡◌, refl, sym, ap, subst, ◌∙◌}
use mathlib.Core.List.{List}
use mathlib.Core.Bool.{true}
use Prim.Native.Nat.{ℕ}
use native.Mathlib.Omega.{arith}
use lib.ListN.{length}
use Rattle.rules.specs.declared.Stop.{Stop}
use Rattle.rules.specs.Limits.{slot_count}
use Rattle.rules.specs.Slots.{Slots}
use Rattle.rules.specs.Class.{sets}
use Rattle.rules.specs.Step.{Step, pass}
use Rattle.rules.specs.Field.{Env, times}
use Rattle.facts.proofs.Steps.{seq-pass}
use Rattle.class_layout.specs.Numbers.{number_at}
use Rattle.class_layout.specs.Trees.{IsWhole, class_at}
use Rattle.class_layout.specs.Notes.{Notes, Prepared}
use Rattle.frame.specs.declared.Frame.{Frame}
use Rattle.frame.specs.Framed.{Framed, env_of}
use Rattle.listing.specs.declared.Progress.{Progress}
use Rattle.listing.specs.Did.{Did, full}
use Rattle.listing.proofs.Parts.{Part, part-start, part_end}
use Rattle.field_runs.specs.declared.Run.{Run}
use Rattle.field_inside.specs.Inside.{element_of}
use Rattle.field_runs.specs.Run.{over, elements_run}
use Rattle.field_runs.specs.Ahead.{ahead, WholeRun, Forgets}
use Rattle.field_runs.proofs.Ahead.{elements-stand, elements-reads, elements-times}
use Rattle.field_read.specs.Reads.{FieldReads, stopped_field, state_at}
use Rattle.field_read.proofs.Round.{Loop, Round, round-over}

module _ (b u : List ℕ) (f : Frame) (d : ℕ) (t : List ℕ) (x : Notes) (begun : Run) (st : Progress) (given : Slots) (ws₀ : List ℕ) where
  abbrev pub walk_read : Step
  walk_read = ahead d t (env_of b u f) begun

  abbrev pub walk_loop : Loop
  walk_loop = record {
    stream = b;
    uuid = u;
    frame = f;
    depths = d;
    table = t;
    notes = x;
    all = walk_read (full st given (length ws₀));
    behind = pass;
    list = ws₀;
  }

  pub walk_start : WholeRun d t begun → Prepared t x → Framed b f st.place → length given ≡ slot_count
      → Round walk_loop begun ws₀ 0 (state_at st.place st.order st) given
  walk_start stands noted framed many = record {
    stands = stands;
    noted = noted;
    framed = framed;
    many = many;
    part = subst (λ (m : Step). Part (walk_read (full st given (length ws₀))) m ws₀ ws₀ 0 (state_at st.place st.order st) given)
        (sym (seq-pass walk_read)) (part-start walk_read ws₀ (state_at st.place st.order st) given);
  }

  pub walk_end : {r : Run} {ws : List ℕ} {used : ℕ} {st' : Progress} {l : Slots} → Round walk_loop r ws used st' l → over r ≡ true
      → FieldReads walk_read st given (record { went = Ok tt; used = used; state = st'; slots = l }) ws₀ ws
  unfolding pass
  walk_end h e = record {
    did = part_end (round-over h e) st (λ s. refl);
    kept = λ v off. let z : ◌≡◌ {A = ℕ} 0 1 = cc in absurd (omega arith);
    many = h.many;
  }

pub walk-stopped : (b u : List ℕ) (f : Frame) (d : ℕ) (t : List ℕ) (begun : Run) (st : Progress) (given : Slots) (ws₀ : List ℕ)
    {v : Stop} {n : ℕ} {ws : List ℕ} → length given ≡ slot_count
    → ((came : Progress) (l : Slots) → Did (ahead d t (env_of b u f) begun (full st given (length ws₀))) came (Err v) n came l ws₀ ws)
    → FieldReads (ahead d t (env_of b u f) begun) st given (stopped_field v n st given) ws₀ ws
walk-stopped b u f d t begun st given ws₀ many stops = record { did = stops st given; kept = λ v h. refl; many = many }

-- An array's elements in a run of their own

module _ (d : ℕ) (t : List ℕ) (at n f : ℕ) (there : IsWhole d t at) (right : Forgets n f (sets (class_at d t at))) {r : Run}
    (e : r ≡ elements_run at n f) where
  pub elements-run-stands : WholeRun d t r
  elements-run-stands = rw e (elements-stand d t at n f there right)

  pub elements-run-reads : (v : Env) → ahead d t v r ≡ times n (element_of v (number_at t at) (class_at d t at))
  elements-run-reads v = ap (ahead d t v) e ∙ elements-reads d t v at n f right ∙ elements-times d t v at n
