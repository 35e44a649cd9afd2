-- Calls that meet the contract: their lists hold the rules' entries, and the demands hold of them.
use Rattle.std.specs.Prelude.{None, Some}
use mathlib.Core.Path.{◌≡◌, refl, sym, ap, subst, ◌∙◌}
use Prim.Native.Nat.{ℕ, ◌*◌, ◌≤◌, ◌<◌}
use native.Mathlib.Omega.{arith}
use mathlib.Core.List.{List, [], ◌∷◌, ◌++◌, append_assoc}
use mathlib.Core.Bool.{Bool}
use lib.ListN.{length, take, drop, take-append-drop}
use lib.Seq.{length-take-le, take-length, take_at}
use Rattle.rules.specs.declared.Entry.{Entry}
use Rattle.rules.specs.declared.Verdict.TheVariants.{Refused}
use Rattle.rules.specs.Limits.{words_per_entry}
use Rattle.rules.specs.Entry.{words}
use Rattle.rules.specs.Verdict.{number_of, place_of, first_of, second_of}
use Rattle.rules.specs.Read.{Reading, read_all, result_of, list_after}
use Rattle.facts.proofs.Lists.{length-words, words_append}
use Rattle.rules.specs.Edition.{leave}
use Rattle.promises.specs.Missing.{Lost, missed, MissingClass, Good}
use Rattle.promises.specs.Demands.{entries_in, Call, listed_by, words_of, came_behind, Contract, refused_at, Demand3Calls}
use Rattle.promises.proofs.Exact.{demand-3}
use Rattle.promises.proofs.Finds.{first-index}

-- The list of a call

-- entries are read back from their words
pub entries-words : (es : List Entry) (ws : List ℕ) → entries_in (length es) (words es ++ ws) ≡ es
unfolding entries_in words
entries-words [] ws = refl
entries-words (e ∷ es) ws = ap (e ∷◌) (entries-words es ws)

-- the words of the first k entries
pub take_words : (k : ℕ) (es : List Entry) (ws : List ℕ) → k ≤ length es → take (words_per_entry * k) (words es ++ ws) ≡ words (take k es)
take_words k es ws h =
    let p : words es ≡ words (take k es) ++ words (drop k es) = ap words (sym (take-append-drop k es)) ∙ words_append (take k es) (drop k es) in
    let q : length (words (take k es)) ≡ words_per_entry * k = length-words (take k es) ∙ ap (λ n. words_per_entry * n) (length-take-le k es h) in
    ap (λ w. take (words_per_entry * k) (w ++ ws)) p
    ∙ ap (take (words_per_entry * k)) (append_assoc (words (take k es)) (words (drop k es)) ws)
    ∙ take_at (words (take k es)) (words (drop k es) ++ ws) _ q

module _ (x b : List ℕ) (c : Call) (h : Contract x b c) where
  abbrev full : Reading
  full = read_all x b (length c.before)

  entry-count : c.result.entries ≡ length full.entries
  unfolding result_of
  entry-count = ap (λ r. r.entries) h.result

  pub lists-entries : listed_by c ≡ full.entries
  unfolding list_after
  lists-entries =
      ap (λ n. entries_in n c.after) entry-count ∙ ap (entries_in (length full.entries)) h.list ∙ entries-words full.entries _

  pub lists-words : (k : ℕ) → k ≤ length full.entries → words_of k c ≡ words (take k full.entries)
  unfolding list_after
  lists-words k l = ap (take (words_per_entry * k)) h.list ∙ take_words k full.entries _ l

-- Demand 3

reading-is : (r : Reading) (es : List Entry) (l : Lost) → r.entries ≡ es → r.verdict ≡ Refused l.refusal → r ≡ record { entries = es; verdict = Refused l.refusal }
reading-is r es l p q = λ i. record { entries = p i; verdict = q i }

module _ (ks : ℕ → Bool) (ke : ℕ → ℕ → Bool) (x b : List ℕ) (c d : Call) (h : Contract x b c) (k : Contract (leave ks ke x) b d) (n : length d.before ≡ length c.before)
    (m : MissingClass ks ke x b (length c.before)) where
  abbrev whole : Reading
  whole = read_all x b (length c.before)

  abbrev short : Reading
  short = read_all (leave ks ke x) b (length c.before)

  short-result : d.result ≡ result_of short
  short-result = k.result ∙ ap (λ z. result_of (read_all (leave ks ke x) b z)) n

  short-list : d.after ≡ list_after short d.before
  short-list = k.list ∙ ap (λ z. list_after (read_all (leave ks ke x) b z) d.before) n

  pub calls_same : missed ks ke (listed_by c) ≡ None → (d.result ≡ c.result) × (d.after ≡ words_of c.result.entries c ++ came_behind c.result.entries d)
  unfolding list_after
  calls_same q =
      let e : short ≡ whole = m.same (ap (missed ks ke) (sym (lists-entries x b c h)) ∙ q) in
      let a : words_of (length whole.entries) c ≡ words whole.entries =
      lists-words x b c h (length whole.entries) (omega arith) ∙ ap words (take-length whole.entries) in (
        short-result ∙ ap result_of e ∙ sym h.result,
        rw (entry-count x b c h, a) (short-list ∙ ap (λ z. list_after z d.before) e),
      )

  pub calls-cut : (l : Lost) → missed ks ke (listed_by c) ≡ Some l → (d.result ≡ refused_at l) × (d.after ≡ words_of l.index c ++ came_behind l.index d)
  unfolding list_after result_of number_of place_of first_of second_of missed
  calls-cut l q =
      let s : missed ks ke whole.entries ≡ Some l = ap (missed ks ke) (sym (lists-entries x b c h)) ∙ q in
      let i : l.index < length whole.entries = first-index _ _ 0 whole.entries l s in
      let j : length (take l.index whole.entries) ≡ l.index = length-take-le l.index whole.entries (omega arith) in
      let w = lists-words x b c h l.index (omega arith) in
      let e = reading-is short _ l (m.cut l s).0 (m.cut l s).1 in (
        short-result ∙ ap result_of e ∙ ap (λ z. record {
          number = number_of (Refused l.refusal);
          entries = z;
          place = l.refusal.place.0;
          first = first_of (Refused l.refusal);
          second = second_of (Refused l.refusal);
        }) j,
        short-list ∙ ap (λ z. list_after z d.before) e
            ∙ (λ t. (sym w) t ++ drop (words_per_entry * (j t)) d.before),
      )

pub demand-3-calls : (full short b : List ℕ) (c d : Call) → Contract full b c → Contract short b d → Demand3Calls full short c d
demand-3-calls full short b c d h k ks ke g e n =
    let m = demand-3 ks ke full g b (length c.before) in
    let k' : Contract (leave ks ke full) b d = subst (λ z. Contract z b d) e k in
    record {
      accepted = subst Good (sym e) m.accepted;
      cut = calls-cut ks ke full b c d h k' n m;
      same = calls_same ks ke full b c d h k' n m;
    }
