-- A call of the cycle: what it reads, from where on, and what it hands back.
use Rattle.std.specs.Prelude.{Result, ⊤}
use mathlib.Core.Path.{◌≡◌, refl}
use mathlib.Core.List.{List}
use Prim.Native.Nat.{ℕ}
use lib.ListN.{length}
use Rattle.rules.specs.declared.Stop.{Stop}
use Rattle.rules.specs.Slots.{Slots}
use Rattle.rules.specs.Step.{Out, Step, pass}
use Rattle.rules.specs.Field.{Env, read, read_members, times}
use Rattle.class_layout.specs.Numbers.{number_at}
use Rattle.class_layout.specs.Trees.{stood_at, class_at, members_at}
use Rattle.field_inside.specs.Inside.{element_of}
use Rattle.frame.specs.declared.Frame.{Frame}
use Rattle.frame.specs.Framed.{env_of}
use Rattle.listing.specs.declared.Progress.{Progress}
use Rattle.listing.specs.Did.{Did, full}
use Rattle.listing.proofs.Parts.{part_length}
use Rattle.field_read.specs.declared.Field.{Field}
use Rattle.field_read.specs.Reads.{FieldReads, stopped_field}

-- it reads `all`, from `came` and `given` on, and lists into `list`
pub record Call : Type 0 where
  pub stream : List ℕ
  pub uuid : List ℕ
  pub frame : Frame
  pub all : Step
  pub came : Progress
  pub given : Slots
  pub list : List ℕ

abbrev pub call : List ℕ → List ℕ → Frame → (Env → Step) → Progress → Slots → List ℕ → Call
call b u f m st l ws = record { stream = b; uuid = u; frame = f; all = m (env_of b u f); came = st; given = l; list = ws }

abbrev pub outcome : Call → Out
outcome w = w.all (full w.came w.given (length w.list))

abbrev pub CallReads : Call → Field → List ℕ → Type 0
CallReads w r ws = FieldReads w.all w.came w.given r w.list ws

abbrev pub stopped_call : Call → Stop → ℕ → Field
stopped_call w v n = stopped_field v n w.came w.given

-- what the functions read, each by its record's number: the class at a byte, n classes from a byte on, and the class at a byte n times
abbrev pub class_read : ℕ → List ℕ → ℕ → Env → Step
class_read d t at e = read e (number_at t at) (class_at d t at)

abbrev pub members_read : ℕ → List ℕ → ℕ → ℕ → Env → Step
members_read d t at n e = read_members e (number_at t at) (members_at (stood_at d t) at n)

abbrev pub elements_read : ℕ → List ℕ → ℕ → ℕ → Env → Step
elements_read d t at n e = times n (element_of e (number_at t at) (class_at d t at))

-- a list keeps its length
pub did-length : {o : Out} {came st : Progress} {went : Result ⊤ Stop} {n : ℕ} {l : Slots} {ws ys : List ℕ} → Did o came went n st l ws ys
    → length ys ≡ length ws
did-length {st = st} {l = l} did = part_length {m = pass} {st = st} {l = l}
    record { listed = did.listed; list = did.list; counted = did.counted; room = did.room; rest = refl }
