-- The smallest bundle, of calls. In order: calls of `read`, one a stream, and the smallest table by them; a call of `bundle`; what it
-- answers.
use Rattle.rules.specs.Verdict.{table_fault}
use Rattle.rules.specs.declared.NoBundle.{NoBundle}
use Rattle.std.specs.Prelude.{◌≡◌, ℕ, ◌<◌, ◌≤◌, Bool, true, length, drop, Err, Result}
use mathlib.Core.List.{List, [], ◌∷◌, ◌++◌, map, head_d, tail}
use Rattle.rules.specs.declared.ByteLength.{ByteLength}
use Rattle.rules.specs.declared.Entry.{Entry}
use Rattle.rules.specs.declared.Report.{Report}
use Rattle.rules.specs.Parse.{checked}
use Rattle.rules.specs.Edition.{leave}
use Rattle.rules.specs.Lists.{parts}
use Rattle.rules.specs.Bundle.{bundle_of, bundle_readings, bundle_answer, buffer_after, lists_after}
use Rattle.promises.specs.Missing.{Good}
use Rattle.promises.specs.Demands.{Call, listed_by, Contract}
use Rattle.promises.specs.BundleFigures.{numbers_of}
use Rattle.promises.specs.Smallest.{JustFound, any_stream, any_event, but_event, but_stream}

-- Calls of `read`, by one table: of each stream one, with its own list; a stream for which there is none has a list of no words

abbrev pub Reads : List ℕ → List (List ℕ) → List (List ℕ) → List Call → Type 0
Reads x [] ls [] = Unit {0}
Reads x [] ls (c ∷ cs) = ⊥
Reads x (b ∷ bs) ls [] = ⊥
Reads x (b ∷ bs) ls (c ∷ cs) = Contract x b c × (c.before ≡ head_d ls []) × Reads x bs (tail ls) cs

abbrev pub lists_of : List Call → List (List Entry)
lists_of cs = map (λ (c : Call). listed_by c) cs

abbrev pub results_of : List Call → List Report
results_of cs = map (λ (c : Call). c.result) cs

-- the words of their lists, one behind another
unfoldable pub joined : List Call → List ℕ
joined [] = []
joined (c ∷ cs) = c.after ++ joined cs

-- y is the smallest table that x may be cut to, by the calls cs of `read` with x. With the same lists its calls are the same: all five
-- figures of each result and every word of each list. Leaving out more changes a result
pub record SmallestCalled (x y : List ℕ) (bs ls : List (List ℕ)) (cs : List Call) : Type 0 where
  pub ks : ℕ → Bool
  pub ke : ℕ → ℕ → Bool
  pub kept : y ≡ leave ks ke x
  pub found : JustFound ks ke (lists_of cs)
  pub accepted : Good y
  pub alike : (ds : List Call) → Reads y bs ls ds → ds ≡ cs
  pub event-needed : (i j : ℕ) → ke i j ≡ true
      → (ds : List Call) → Reads (leave any_stream (but_event i j) y) bs ls ds → results_of ds ≡ results_of cs → ⊥
  pub stream-needed : (i : ℕ) → ks i ≡ true
      → (ds : List Call) → Reads (leave (but_stream i) any_event y) bs ls ds → results_of ds ≡ results_of cs → ⊥
  pub none-further : (ts : ℕ → Bool) (te : ℕ → ℕ → Bool) (ds : List Call)
      → Reads (leave ts te y) bs ls ds → results_of ds ≡ results_of cs → leave ts te y ≡ y

-- A call of `bundle`: the result, the words of the lent lists before and after, the bytes of the buffer before and after

pub record Cut : Type 0 where
  pub result : Result ByteLength NoBundle
  pub before : List ℕ
  pub after : List ℕ
  pub buffer : List ℕ
  pub written : List ℕ

abbrev pub cut : Result ByteLength NoBundle → List ℕ → List ℕ → List ℕ → List ℕ → Cut
cut r ws ws' out out' = record { result = r; before = ws; after = ws'; buffer = out; written = out' }

-- its contract, for a table x, streams that stand in b with lengths ns, and rooms ms: the result, every word of the lists and every byte
-- of the buffer are the rules' own
pub record CutContract (x b ns ms : List ℕ) (c : Cut) : Type 0 where
  pub result : c.result ≡ bundle_answer x b ns ms c.before (length c.buffer)
  pub list : c.after ≡ lists_after c.result (bundle_readings x b ns ms c.before) ms c.before
  pub buffer : c.written ≡ buffer_after c.result (bundle_of x (bundle_readings x b ns ms c.before)) c.buffer

-- refused with nothing touched
pub record Refuses (number place id : ℕ) (c : Cut) : Type 0 where
  pub numbers : numbers_of c.result ≡ number ∷ place ∷ id ∷ []
  pub lists : c.after ≡ c.before
  pub buffer : c.written ≡ c.buffer

-- cs: calls of `read` with x, of the same streams with the same lists
pub record Cuts (x : List ℕ) (bs ls : List (List ℕ)) (cs : List Call) (c : Cut) : Type 0 where
  pub table : List ℕ
  pub smallest : SmallestCalled x table bs ls cs
  -- the lists hold what these calls listed, and behind them every word is as it came
  pub lists : c.after ≡ joined cs ++ drop (length (joined cs)) c.before
  -- the buffer begins with the table, and behind it every byte is as it came; or it is short, and untouched
  pub fits : length table ≤ length c.buffer
      → (numbers_of c.result ≡ 0 ∷ length table ∷ 0 ∷ []) × (c.written ≡ table ++ drop (length table) c.buffer)
  pub short : length c.buffer < length table
      → (numbers_of c.result ≡ 45 ∷ length table ∷ 0 ∷ []) × (c.written ≡ c.buffer)

-- "A refused table (20), over sixteen streams and a short output buffer (new numbers) are refused in that order; the buffer is then
-- untouched." The numbers stand here by themselves, so that the rules are held to them
pub record Answers (x b ns ms : List ℕ) (cs : List Call) (c : Cut) : Type 0 where
  pub table-refused : (n : ℕ) (p : ByteLength) → checked x ≡ Err (table_fault n p) → Refuses 20 p.0 n c
  pub over-sixteen : Good x → 16 < length ns → Refuses 44 0 0 c
  pub cuts : Good x → length ns ≤ 16 → Cuts x (parts ns b) (parts ms c.before) cs c

-- of every answer that the contract allows
abbrev pub SmallestCalls : Type 0
SmallestCalls = (x b ns ms : List ℕ) (cs : List Call) (c : Cut)
    → CutContract x b ns ms c → Reads x (parts ns b) (parts ms c.before) cs → Answers x b ns ms cs c

-- and of one call, as `promises_calls::cut_once` ensures it
pub record CutOnce (x b ns ms : List ℕ) (c : Cut) : Type 0 where
  pub contract : CutContract x b ns ms c
  pub answers : (cs : List Call) → Reads x (parts ns b) (parts ms c.before) cs → Answers x b ns ms cs c
