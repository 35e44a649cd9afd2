-- The same bytes at another place: a step beside the same step, the first from a start and before a bound, the second from another start
-- and before a bound that is as far from it or further. What stands beside what (`Rel`): the second does what the first does, moved;
-- entries, the place of a refusal and the state's place by `away`, all else as it is, but that the last event's clock may be another.
--
-- The one exception (`Cut`): the first was stopped by its nearer bound, with 22 (past the bound), 25 (no zero byte before it) or 34 (a
-- total past the stream). The second, whose bound is strictly further, then lists at least the same, moved, and may go on; and where it
-- goes through, it ends behind the first one's bound. It may be stopped with 22 too, and then at its own bound. So with more bytes behind,
-- nothing changes but an answer of these three numbers.
use Rattle.std.specs.Prelude.{◌≡◌, ◌⊎◌, ℕ, ◌+◌, ◌-◌, ◌*◌, ◌/◌, ◌%◌, ◌≤◌, ◌<◌, List, ◌++◌, map, length, drop}
use Rattle.rules.specs.declared.Entry.{Entry}
use Rattle.rules.specs.declared.Refusal.{Refusal}
use Rattle.rules.specs.declared.Refusal.TheVariants.{PastBound, NoZeroByte, LengthsContradict}
use Rattle.rules.specs.declared.Stop.{Stop}
use Rattle.rules.specs.Place.{bit_place}
use Rattle.rules.specs.Entry.{entry}
use Rattle.rules.specs.Verdict.{stop_at}
use Rattle.rules.specs.Step.{State, Out, stop, go, onto}
use Rattle.rules.specs.Field.{Env}

-- the packet's bytes from both starts are w, as far as the nearer bound; that one is as far as the other, or nearer
pub record Like (e e' : Env) : Type 0 where
  pub w : List ℕ
  pub post : List ℕ
  pub post' : List ℕ
  pub here : drop (e.start.0 / 8) e.bytes ≡ w ++ post
  pub there : drop (e'.start.0 / 8) e'.bytes ≡ w ++ post'
  pub whole : e.start.0 % 8 ≡ 0
  pub whole' : e'.start.0 % 8 ≡ 0
  pub covers : e.bound.0 ≤ e.start.0 + 8 * length w
  pub inside : e.start.0 ≤ e.bound.0
  pub inside' : e'.start.0 ≤ e'.bound.0
  pub narrower : e.bound.0 - e.start.0 ≤ e'.bound.0 - e'.start.0
  pub uuids : e'.uuid ≡ e.uuid

module _ (e e' : Env) where
  -- a place of the first, in the second
  abbrev pub away : ℕ → ℕ
  away p = e'.start.0 + (p - e.start.0)

  unfoldable pub far_entry : Entry → Entry
  far_entry x = entry x.kind (bit_place (away x.place.0)) x.bits x.value x.number

  unfoldable pub far_all : List Entry → List Entry
  far_all es = map far_entry es

  abbrev pub far_stop : Stop → Stop
  far_stop v = stop_at v.why (bit_place (away v.place.0))

  -- the state there; the last event's clock may become another
  unfoldable pub far : (ℕ → ℕ) → State → State
  far l s = record {
    place = bit_place (away s.place.0);
    room = s.room;
    slots = s.slots;
    order = s.order;
    clock = s.clock;
    last = l s.last;
    said = s.said;
  }

  unfoldable pub far_out : (ℕ → ℕ) → Out → Out
  far_out l (stop es v) = stop (far_all es) (far_stop v)
  far_out l (go es s) = go (far_all es) (far l s)

  -- The first ran past its bound, and the second went on

  -- what a bound, or the stream's end, may decide
  abbrev pub Short : Refusal → Type 0
  Short r = (r ≡ PastBound) ⊎ ((r ≡ NoZeroByte) ⊎ (r ≡ LengthsContradict))

  pub record Cut (o o' : Out) : Type 0 where
    pub es : List Entry
    pub v : Stop
    pub stops : o ≡ stop es v
    pub short : Short v.why
    pub rest : Out
    pub goes : o' ≡ onto (far_all es) rest
    pub wider : e.bound.0 - e.start.0 < e'.bound.0 - e'.start.0
    pub beyond : (fs : List Entry) (t : State) → o' ≡ go fs t → away e.bound.0 < t.place.0

  abbrev pub Rel : (ℕ → ℕ) → Out → Out → Type 0
  Rel l o o' = (o' ≡ far_out l o) ⊎ Cut o o'
