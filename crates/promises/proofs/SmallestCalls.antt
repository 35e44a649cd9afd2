-- The smallest bundle of calls. In order: calls of `read`, by the rules' readings of the streams; the smallest table by them; the lists;
-- the answers.
use Rattle.std.specs.Prelude.{Err, Ok, Result}
use Rattle.rules.specs.Verdict.{table_fault}
use Rattle.rules.specs.declared.NoBundle.TheVariants.{Table, TooManyStreams, ShortBuffer}
use Rattle.rules.specs.declared.NoBundle.{NoBundle}
use Rattle.rules.specs.declared.TableFault.{TableFault}
use mathlib.Core.Path.{◌≡◌, refl, sym, ap, subst, ◌∙◌}
use Prim.Native.Nat.{ℕ, zero, suc, ◌+◌, ◌<◌, ◌≤◌}
use native.Mathlib.Omega.{arith}
use native.Mathlib.Nat.{zero-add, suc-add}
use mathlib.Core.List.{List, [], ◌∷◌, ◌++◌, map, head_d, tail, append_assoc}
use mathlib.Core.Bool.{Bool, true, false}
use lib.ListN.{length, length-append, take, drop, take-append-drop}
use lib.Dec.{ltb}
use borrow.Author.Tests.{ltb-true, ltb-false, le-ltb, lt-ltb}
use Rattle.rules.specs.declared.ByteLength.{ByteLength}
use Rattle.rules.specs.Limits.{bundle_limit}
use Rattle.rules.specs.Place.{byte_length}
use Rattle.rules.specs.Parse.{checked}
use Rattle.rules.specs.Read.{Reading, read_all, result_of, list_after}
use Rattle.rules.specs.Edition.{leave}
use Rattle.rules.specs.Lists.{parts, behind_parts, readings, words_after}
use Rattle.rules.specs.Bundle.{stream_listed, event_listed, bundle_of, fitted, bundled, bundle_readings, bundle_answer, buffer_after, lists_after}
use Rattle.rules.specs.Bundle.{bundled_number, bundled_length, bundled_first}
use Rattle.promises.specs.Missing.{Good}
use Rattle.promises.specs.Demands.{Call, listed_by, Contract}
use Rattle.promises.specs.BundleFigures.{numbers_of}
use Rattle.promises.specs.Smallest.{JustFound, entries_of, any_stream, any_event, but_event, but_stream}
use Rattle.promises.specs.SmallestCalls.{Reads, lists_of, results_of, joined, SmallestCalled, Cut, cut, CutContract}
use Rattle.promises.specs.SmallestCalls.{Refuses, Cuts, Answers, SmallestCalls, CutOnce}
use Rattle.promises.proofs.Calls.{lists-entries}
use Rattle.promises.proofs.Answers.{demand-1}
use Rattle.promises.proofs.Found.{just-found}
use Rattle.promises.proofs.Smallest.{counts_of, cut-accepted, cut-alike, cut-no-further, cut-event-needed, cut-stream-needed}

-- Calls of `read`

-- the first stream's reading, and the others'
readings-cons : (x b : List ℕ) (bs ls : List (List ℕ))
    → readings x (b ∷ bs) ls ≡ read_all x b (length (head_d ls [])) ∷ readings x bs (tail ls)
unfolding readings head_d
readings-cons x b bs [] = refl
readings-cons x b bs (l ∷ ls) = refl

-- a call with a list l, by the rules' reading
module _ (x b : List ℕ) (c : Call) (h : Contract x b c) (l : List ℕ) (e : c.before ≡ l) where
  call-result : c.result ≡ result_of (read_all x b (length l))
  call-result = h.result ∙ ap (λ w. result_of (read_all x b (length w))) e

  call-after : c.after ≡ list_after (read_all x b (length l)) l
  call-after = h.list ∙ ap (λ w. list_after (read_all x b (length w)) w) e

  call-lists : listed_by c ≡ (read_all x b (length l)).entries
  call-lists = lists-entries x b c h ∙ ap (λ w. (read_all x b (length w)).entries) e

  -- it leaves a list of the same length
  call_length : length c.after ≡ length l
  call_length = (demand-1 x b c h).same_length ∙ ap length e

reads-lists : (x : List ℕ) (bs ls : List (List ℕ)) (cs : List Call) → Reads x bs ls cs → lists_of cs ≡ entries_of (readings x bs ls)
unfolding readings
reads-lists x [] ls [] h = refl
reads-lists x [] ls (c ∷ cs) h = absurd h
reads-lists x (b ∷ bs) ls [] h = absurd h
reads-lists x (b ∷ bs) ls (c ∷ cs) h =
    rw (readings-cons x b bs ls) (λ i. call-lists x b c h.0 _ h.1 i ∷ reads-lists x bs (tail ls) cs h.2 i)

reads-counts : (x : List ℕ) (bs ls : List (List ℕ)) (cs : List Call) → Reads x bs ls cs
    → map (λ (c : Call). c.result.entries) cs ≡ counts_of (readings x bs ls)
unfolding readings result_of
reads-counts x [] ls [] h = refl
reads-counts x [] ls (c ∷ cs) h = absurd h
reads-counts x (b ∷ bs) ls [] h = absurd h
reads-counts x (b ∷ bs) ls (c ∷ cs) h =
    rw (readings-cons x b bs ls) (λ i. (call-result x b c h.0 _ h.1 i).entries ∷ reads-counts x bs (tail ls) cs h.2 i)

-- results that are the same count the same entries
counts_same : (ds cs : List Call) → results_of ds ≡ results_of cs
    → map (λ (c : Call). c.result.entries) ds ≡ map (λ (c : Call). c.result.entries) cs
counts_same [] [] h = refl
counts_same [] (c ∷ cs) h = let z : ◌≡◌ {A = ℕ} 0 1 = cc in absurd (omega arith)
counts_same (d ∷ ds) [] h = let z : ◌≡◌ {A = ℕ} 0 1 = cc in absurd (omega arith)
counts_same (d ∷ ds) (c ∷ cs) h =
    let e : d.result ≡ c.result = cc in
    let f : results_of ds ≡ results_of cs = cc in
    λ i. (e i).entries ∷ counts_same ds cs f i

-- calls of streams that read alike are the same
call_same : (x y b : List ℕ) (c d : Call) → Contract x b c → Contract y b d → (l : List ℕ) → c.before ≡ l → d.before ≡ l
    → read_all y b (length l) ≡ read_all x b (length l) → d ≡ c
call_same x y b c d h k l p q e = λ i. record {
  result = (call-result y b d k l q ∙ ap result_of e ∙ sym (call-result x b c h l p)) i;
  before = (q ∙ sym p) i;
  after = (call-after y b d k l q ∙ ap (λ r. list_after r l) e ∙ sym (call-after x b c h l p)) i;
}

calls_same : (x y : List ℕ) (bs ls : List (List ℕ)) (cs ds : List Call) → Reads x bs ls cs → Reads y bs ls ds
    → readings y bs ls ≡ readings x bs ls → ds ≡ cs
calls_same x y [] ls [] [] h k e = refl
calls_same x y [] ls [] (d ∷ ds) h k e = absurd k
calls_same x y [] ls (c ∷ cs) ds h k e = absurd h
calls_same x y (b ∷ bs) ls [] ds h k e = absurd h
calls_same x y (b ∷ bs) ls (c ∷ cs) [] h k e = absurd k
calls_same x y (b ∷ bs) ls (c ∷ cs) (d ∷ ds) h k e =
    let both = sym (readings-cons y b bs ls) ∙ e ∙ readings-cons x b bs ls in
    let one : read_all y b (length (head_d ls [])) ≡ read_all x b (length (head_d ls [])) = cc in
    let others : readings y bs (tail ls) ≡ readings x bs (tail ls) = cc in
    λ i. call_same x y b c d h.0 k.0 _ h.1 k.1 one i ∷ calls_same x y bs (tail ls) cs ds h.2 k.2 others i

-- The smallest table by them

module _ (x : List ℕ) (good : Good x) (bs ls : List (List ℕ)) (cs : List Call) (h : Reads x bs ls cs) where
  abbrev rs : List Reading
  rs = readings x bs ls

  abbrev found : JustFound (stream_listed rs) (event_listed rs) (entries_of rs)
  found = just-found rs

  -- the same results of calls with another table count the same entries
  counted : (z : List ℕ) (ds : List Call) → Reads z bs ls ds → results_of ds ≡ results_of cs → counts_of (readings z bs ls) ≡ counts_of rs
  counted z ds k e = sym (reads-counts z bs ls ds k) ∙ counts_same ds cs e ∙ reads-counts x bs ls cs h

  smallest-called : SmallestCalled x (bundle_of x rs) bs ls cs
  unfolding bundle_of
  smallest-called = record {
    ks = stream_listed rs;
    ke = event_listed rs;
    kept = refl;
    found = subst (JustFound (stream_listed rs) (event_listed rs)) (sym (reads-lists x bs ls cs h)) found;
    accepted = cut-accepted x good bs ls _ _ found;
    alike = λ ds k. calls_same x _ bs ls cs ds h k (cut-alike x good bs ls _ _ found);
    event-needed = λ i j k ds r e. cut-event-needed x good bs ls _ _ found i j k (counted _ ds r e);
    stream-needed = λ i k ds r e. cut-stream-needed x good bs ls _ _ found i k (counted _ ds r e);
    none-further = λ ts te ds r e. cut-no-further x good bs ls _ _ found ts te (counted _ ds r e);
  }

-- The lists

-- with no stream they are as they came
lists-untouched : (ms ws : List ℕ) → words_after [] (parts ms ws) ++ behind_parts ms ws ≡ ws
unfolding words_after parts behind_parts
lists-untouched [] ws = refl
lists-untouched (m ∷ ms) ws =
    append_assoc (take m ws) (words_after [] (parts ms (drop m ws))) (behind_parts ms (drop m ws))
    ∙ ap (λ z. take m ws ++ z) (lists-untouched ms (drop m ws)) ∙ take-append-drop m ws

drop-part : (m k : ℕ) (ws : List ℕ) → drop (length (take m ws) + k) ws ≡ drop k (drop m ws)
drop-part zero k ws = ap (λ n. drop n ws) (zero-add k)
drop-part (suc m) k [] = ap (λ n. drop n []) (zero-add k)
drop-part (suc m) k (w ∷ ws) = rw (suc-add (length (take m ws)) k) (drop-part m k ws)

nil-of : (l : List ℕ) → length l ≡ 0 → l ≡ []
nil-of [] h = refl
nil-of (a ∷ l) h = absurd (omega arith)

module _ (x : List ℕ) where
  -- calls with no lists leave no words
  no_words : (bs : List (List ℕ)) (cs : List Call) → Reads x bs [] cs → joined cs ≡ []
  unfolding joined head_d
  no_words [] [] h = refl
  no_words [] (c ∷ cs) h = absurd h
  no_words (b ∷ bs) [] h = absurd h
  no_words (b ∷ bs) (c ∷ cs) h = rw (nil-of c.after (call_length x b c h.0 [] h.1)) (no_words bs cs h.2)

  lists-joined : (bs : List (List ℕ)) (ms ws : List ℕ) (cs : List Call) → Reads x bs (parts ms ws) cs
      → words_after (readings x bs (parts ms ws)) (parts ms ws) ++ behind_parts ms ws ≡ joined cs ++ drop (length (joined cs)) ws
  unfolding words_after readings parts behind_parts joined head_d
  lists-joined [] ms ws [] h = lists-untouched ms ws
  lists-joined [] ms ws (c ∷ cs) h = absurd h
  lists-joined (b ∷ bs) ms ws [] h = absurd h
  lists-joined (b ∷ bs) [] ws (c ∷ cs) h = rw (no_words (b ∷ bs) (c ∷ cs) h) refl
  lists-joined (b ∷ bs) (m ∷ ms) ws (c ∷ cs) h =
      let l = take m ws in
      let r = read_all x b (length l) in
      let after : c.after ≡ list_after r l = call-after x b c h.0 l h.1 in
      let k : length c.after ≡ length l = call_length x b c h.0 l h.1 in
      let size = length-append c.after (joined cs) ∙ ap (λ n. n + length (joined cs)) k in
      let behind : drop (length (c.after ++ joined cs)) ws ≡ drop (length (joined cs)) (drop m ws) =
      ap (λ n. drop n ws) size ∙ drop-part m (length (joined cs)) ws in
      append_assoc (list_after r l) (words_after (readings x bs (parts ms (drop m ws))) (parts ms (drop m ws))) (behind_parts ms (drop m ws))
      ∙ ap (λ z. list_after r l ++ z) (lists-joined bs ms (drop m ws) cs h.2)
      ∙ ap (λ z. z ++ (joined cs ++ drop (length (joined cs)) (drop m ws))) (sym after)
      ∙ sym (append_assoc c.after (joined cs) (drop (length (joined cs)) (drop m ws)))
      ∙ ap (λ z. (c.after ++ joined cs) ++ z) (sym behind)

-- The answers

module _ (x b ns ms : List ℕ) (c : Cut) (h : CutContract x b ns ms c) where
  abbrev old : List ℕ
  old = c.before

  abbrev read : List Reading
  read = bundle_readings x b ns ms old

  abbrev table : List ℕ
  table = bundle_of x read

  abbrev room : ℕ
  room = length c.buffer

  -- what a result says of the lists and of the buffer
  lists-by : (r : Result ByteLength NoBundle) → c.result ≡ r → c.after ≡ lists_after r read ms old
  lists-by r e = h.list ∙ ap (λ z. lists_after z read ms old) e

  buffer-by : (r : Result ByteLength NoBundle) → c.result ≡ r → c.written ≡ buffer_after r table c.buffer
  buffer-by r e = h.buffer ∙ ap (λ z. buffer_after z table c.buffer) e

  -- the table decides first, and then the number of streams
  by-table : (k : Result ByteLength TableFault) → checked x ≡ k → c.result ≡ bundled k x (length ns) read room
  by-table k e = h.result ∙ ap (λ z. bundled z x (length ns) read room) e

  refuses-table : (n : ℕ) (p : ByteLength) → checked x ≡ Err (table_fault n p) → Refuses 20 p.0 n c
  unfolding bundled lists_after buffer_after bundled_number bundled_length bundled_first
  refuses-table n p e =
      let r : c.result ≡ Err (Table (table_fault n p)) = by-table _ e in
      record { numbers = ap numbers_of r; lists = lists-by _ r; buffer = buffer-by _ r }

  refuses-many : Good x → 16 < length ns → Refuses 44 0 0 c
  unfolding bundled lists_after buffer_after bundled_number bundled_length bundled_first
  refuses-many good n =
      let r : c.result ≡ Err TooManyStreams = by-table _ good ∙ rw (lt-ltb bundle_limit (length ns) n, bundled) refl in
      record { numbers = ap numbers_of r; lists = lists-by _ r; buffer = buffer-by _ r }

  module _ (good : Good x) (n : length ns ≤ 16) where
    fits-or-not : c.result ≡ fitted table room
    unfolding bundled
    fits-or-not = by-table _ good ∙ rw (le-ltb bundle_limit (length ns) n, bundled) refl

    writes : length table ≤ room → c.result ≡ Ok (byte_length (length table))
    unfolding fitted
    writes l = fits-or-not ∙ rw (le-ltb room (length table) l, fitted) refl

    is-short : room < length table → c.result ≡ Err (ShortBuffer (byte_length (length table)))
    unfolding fitted
    is-short l = fits-or-not ∙ rw (lt-ltb room (length table) l, fitted) refl

    module _ (cs : List Call) (k : Reads x (parts ns b) (parts ms old) cs) where
      -- the lists, whichever of the two it is
      lists-hold : c.after ≡ joined cs ++ drop (length (joined cs)) old
      unfolding lists_after
      lists-hold = by (ltb room (length table)) refl
        where
          by : (s : Bool) → ltb room (length table) ≡ s → c.after ≡ joined cs ++ drop (length (joined cs)) old
          by true e = lists-by _ (is-short (ltb-true _ _ e)) ∙ lists-joined x (parts ns b) ms old cs k
          by false e = lists-by _ (writes (ltb-false _ _ e)) ∙ lists-joined x (parts ns b) ms old cs k

      cuts-smallest : Cuts x (parts ns b) (parts ms old) cs c
      unfolding buffer_after bundled_number bundled_length bundled_first
      cuts-smallest = record {
        table = table;
        smallest = smallest-called x good (parts ns b) (parts ms old) cs k;
        lists = lists-hold;
        fits = λ l. (ap numbers_of (writes l), buffer-by _ (writes l));
        short = λ l. (ap numbers_of (is-short l), buffer-by _ (is-short l));
      }

pub smallest-calls : SmallestCalls
smallest-calls x b ns ms cs c h k = record {
  table-refused = refuses-table x b ns ms c h;
  over-sixteen = refuses-many x b ns ms c h;
  cuts = λ good n. cuts-smallest x b ns ms c h good n cs k;
}

-- what `bundle` ensures of a table, streams with their lengths, rooms, a result, and lists and buffer before and after
abbrev pub EnsuredCut : List ℕ → List ℕ → List ℕ → List ℕ → Result ByteLength NoBundle → List ℕ → List ℕ → List ℕ → List ℕ → Type 0
EnsuredCut x b ns ms r ws ws' out out' =
    (r ≡ bundle_answer x b ns ms ws (length out)) × (ws' ≡ lists_after r (bundle_readings x b ns ms ws) ms ws)
    × (out' ≡ buffer_after r (bundle_of x (bundle_readings x b ns ms ws)) out)

pub cut-once : (x b ns ms : List ℕ) (r : Result ByteLength NoBundle) (ws ws' out out' : List ℕ) → EnsuredCut x b ns ms r ws ws' out out'
    → CutOnce x b ns ms (cut r ws ws' out out')
cut-once x b ns ms r ws ws' out out' e =
    let h : CutContract x b ns ms (cut r ws ws' out out') = record { result = e.0; list = e.1; buffer = e.2 } in
    record { contract = h; answers = λ cs k. smallest-calls x b ns ms cs _ h k }
