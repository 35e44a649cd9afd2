-- Editions of a table: what stays of its bytes where stream classes and event classes are left out by their ids.
use Rattle.std.specs.Prelude.{ℕ, zero, suc, List, [], ◌++◌, Bool, true, false, ◌&&◌, length, take}
use Rattle.rules.specs.Record.{Record, unknown, fragment, root, class, range, option, preamble, trace_class, clock_class, stream_class, event_class}
use Rattle.rules.specs.Record.{record_of, size, behind}
use Rattle.rules.specs.Parse.{missing}

-- ks says which stream classes stay, and ke which event classes do
module _ (ks : ℕ → Bool) (ke : ℕ → ℕ → Bool) where
  -- an event class goes with its stream class
  unfoldable pub both : ℕ → ℕ → Bool
  both i j = ks i && ke i j

  -- whether a record stays: a fragment's first by its ids, and those behind it as that one
  unfoldable pub stays : Bool → Record → Bool
  stays now unknown = now
  stays now (fragment (preamble v)) = true
  stays now (fragment (trace_class u l)) = true
  stays now (fragment (clock_class i f)) = true
  stays now (fragment (stream_class i c)) = ks i
  stays now (fragment (event_class i j)) = both i j
  stays now (root r) = now
  stays now (class y) = now
  stays now (range g l h) = now
  stays now (option n) = now

  unfoldable pub part : Bool → List ℕ → List ℕ
  part true x = take (size x) x
  part false x = []

  unfoldable pub leave_records : ℕ → Bool → List ℕ → List ℕ
  leave_records zero now x = []
  leave_records (suc n) now x =
      elim (missing x) [ true ↦ [] | false ↦ part (stays now (record_of x)) x ++ leave_records n (stays now (record_of x)) (behind x) ]

  unfoldable pub leave : List ℕ → List ℕ
  leave x = leave_records (length x) true x
