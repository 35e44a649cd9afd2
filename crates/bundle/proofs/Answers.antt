-- What `bundle` answers. In order: what stays of the table; the buffer; the whole.
use Rattle.std.specs.Prelude.{Ok, Err, Result}
use Rattle.rules.specs.Verdict.{table_fault}
use Rattle.rules.specs.declared.NoBundle.TheVariants.{Table, TooManyStreams, ShortBuffer}
use Rattle.rules.specs.declared.NoBundle.{NoBundle}
use mathlib.Core.Path.{◌≡◌, refl, sym, ap, ◌∙◌}
use Prim.Native.Nat.{ℕ, ◌≤◌, ◌<◌}
use mathlib.Core.List.{List, ◌++◌}
use mathlib.Core.Bool.{Bool, true, false}
use native.Mathlib.Omega.{arith}
use lib.ListN.{length, drop, replicate, length-replicate}
use lib.Dec.{ltb}
use borrow.Author.Tests.{lt-ltb, le-ltb}
use Rattle.rules.specs.declared.ByteLength.{ByteLength}
use Rattle.rules.specs.Limits.{table_limit, bundle_limit}
use Rattle.rules.specs.Place.{byte_length}
use Rattle.rules.specs.Parse.{checked}
use Rattle.rules.specs.Read.{Reading}
use Rattle.rules.specs.Bundle.{stream_listed, event_listed, fitted, bundled, bundle_readings, bundle_of, bundle_answer, buffer_after, lists_after}
use Rattle.class_layout.proofs.Asked.{checked-accepts}
use Rattle.class_lookup.proofs.Index.{zeros}
use Rattle.bundle_table.specs.Kept.{kept}
use Rattle.bundle_table.proofs.Leave.{kept-is-leave}
use Rattle.bundle_marks.specs.Marked.{mark_all}
use Rattle.bundle_marks.proofs.Named.{named}
use Rattle.bundle.specs.Did.{lists_read, BundleDid}

-- What stays of the table, by the marks of all readings over none

pub none-marked : {m : List ℕ} → m ≡ replicate table_limit 0 → length m ≡ table_limit
none-marked e = rw e (length-replicate {A = ℕ} table_limit 0)

pub kept-bundle : (t : List ℕ) (n : ByteLength) → checked t ≡ Ok n → (rs : List Reading) {m₀ m : List ℕ} → m₀ ≡ replicate table_limit 0
    → m ≡ mark_all t rs m₀ → kept t m ≡ bundle_of t rs
unfolding bundle_of
kept-bundle t n h rs {m₀} {m} e w =
    let a = checked-accepts t n h in
    let room : length t ≤ length m₀ = omega (arith, none-marked e, a.limit) in
    rw w (kept-is-leave (stream_listed rs) (event_listed rs) t (mark_all t rs m₀) n h (named a rs m₀ room (λ k. rw e (zeros table_limit k))))

-- The buffer: k is what stays of the table, and n how many bytes that is

abbrev pub Fits : List ℕ → List ℕ → Result ByteLength NoBundle → List ℕ → Type 0
Fits k y r y' = (r ≡ fitted k (length y)) × (y' ≡ buffer_after r k y)

module _ (k y : List ℕ) (n : ℕ) (e : n ≡ length k) where
  pub short-fits : length y < n → Fits k y (Err (ShortBuffer (byte_length n))) y
  unfolding fitted buffer_after
  short-fits h = (rw (e, lt-ltb (length y) (length k) (rw e at h), fitted) refl, refl)

  pub whole-fits : n ≤ length y → {y' : List ℕ} → y' ≡ k ++ drop (length k) y → Fits k y (Ok (byte_length n)) y'
  unfolding fitted buffer_after
  whole-fits h w = (rw (e, le-ltb (length y) (length k) (rw e at h), fitted) refl, w)

-- The whole

module _ (t b ns ms ws y : List ℕ) where
  pub refused_did : {r : Result ByteLength NoBundle} (n : ℕ) (x : ByteLength) → checked t ≡ Err (table_fault n x) → r ≡ Err (Table (table_fault n x))
      → BundleDid t b ns ms ws y r ws y
  unfolding bundled lists_after buffer_after
  refused_did n x h e = rw e (record { answer = rw (h, bundled) refl; lists = refl; buffer = refl })

  module _ (n : ByteLength) (h : checked t ≡ Ok n) where
    pub many-did : {r : Result ByteLength NoBundle} → bundle_limit < length ns → r ≡ Err TooManyStreams → BundleDid t b ns ms ws y r ws y
    unfolding bundled lists_after buffer_after
    many-did l e = rw e (record { answer = rw (h, bundled, lt-ltb bundle_limit (length ns) l) refl; lists = refl; buffer = refl })

    -- the lists hold the readings, whether the buffer is short or not
    lists-read : (k : List ℕ) (rs : List Reading) → lists_after (fitted k (length y)) rs ms ws ≡ lists_read rs ms ws
    unfolding fitted lists_after
    lists-read k rs = by (ltb (length y) (length k))
      where
        by : (b : Bool)
            → lists_after (elim b [ true ↦ Err (ShortBuffer (byte_length (length k))) | false ↦ Ok (byte_length (length k)) ]) rs ms ws
            ≡ lists_read rs ms ws
        by true = refl
        by false = refl

    pub few-did : {r : Result ByteLength NoBundle} {ws' y' k : List ℕ} → length ns ≤ bundle_limit
        → ws' ≡ lists_read (bundle_readings t b ns ms ws) ms ws → k ≡ bundle_of t (bundle_readings t b ns ms ws)
        → Fits k y r y' → BundleDid t b ns ms ws y r ws' y'
    unfolding bundled
    few-did {r} {ws'} {y'} {k} l w e f =
        let a : r ≡ bundle_answer t b ns ms ws (length y) = f.0 ∙ rw (h, bundled, le-ltb bundle_limit (length ns) l, e) refl in
        record {
          answer = a;
          lists = w ∙ sym (rw f.0 (lists-read k (bundle_readings t b ns ms ws)));
          buffer = f.1 ∙ ap (λ k. buffer_after r k y) e;
        }
