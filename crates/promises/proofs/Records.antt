-- The fifth word of an entry, gathered: it names a record of the entry's kind, is below 65,536, and stays the same where classes are left
-- out. The last follows from demand 3: the short list is the full one, or its front.
use Rattle.std.specs.Prelude.{Option, None, Some}
use mathlib.Core.Path.{◌≡◌, refl, sym, ap, subst, ◌∙◌}
use mathlib.Core.Logic.{◌⊎◌, inl, inr, ⊎_elim}
use Prim.Native.Nat.{ℕ, zero, suc, ◌≤◌, ◌<◌}
use native.Mathlib.Omega.{arith}
use mathlib.Core.List.{List, [], ◌∷◌}
use mathlib.Core.Bool.{Bool}
use lib.ListN.{length, take}
use Rattle.rules.specs.declared.Entry.{Entry}
use Rattle.rules.specs.Limits.{table_limit}
use Rattle.rules.specs.Table.{Table}
use Rattle.rules.specs.Parse.{Parsed, bad, good, parse}
use Rattle.rules.specs.Read.{Reading, read_parsed, read_all}
use Rattle.facts.proofs.Numbers.{lt-or-ge}
use Rattle.laws.specs.All.{All}
use Rattle.laws.specs.Owner.{Owner, nobody, of_trace, of_stream, of_event}
use Rattle.rules.specs.Edition.{leave}
use Rattle.promises.specs.Missing.{Lost, missed, shortened, Good}
use Rattle.promises.specs.Demands.{Call, listed_by, Contract}
use Rattle.promises.specs.Records.{NamedBy, Names, number_in, owner_behind, SameNumbers, Records}
use Rattle.promises.proofs.Small.{accepted-length}
use Rattle.promises.proofs.Exact.{good-says, demand-3≡}
use Rattle.promises.proofs.Calls.{lists-entries}
use Rattle.promises.proofs.NamedRecords.{named_small, own-bytes}
use Rattle.promises.proofs.Naming.{reading-names}

reads-names : (x : List ℕ) → Good x → (b : List ℕ) (room : ℕ) → Names x nobody (read_all x b room).entries
reads-names x g b room = let s = good-says x g in reading-names x s.table s.rest s.parsed b room

-- Below 65,536

abbrev Small : Entry → Type 0
Small e = e.number < table_limit

by-small : (x : List ℕ) (o : Owner) (n k : ℕ) → 16 ≤ k → NamedBy x o n k → n < length x
by-small x nobody n k l h = absurd h
by-small x of_trace n k l h = named_small x of_trace n k (omega arith) h
by-small x (of_stream i) n k l h = named_small x (of_stream i) n k (omega arith) h
by-small x (of_event i j) n k l (inl h) = named_small x (of_stream i) n k (omega arith) h
by-small x (of_event i j) n k l (inr h) = named_small x (of_event i j) n k (omega arith) h

names-small : (x : List ℕ) → length x ≤ table_limit → (o : Owner) (es : List Entry) → Names x o es → All Small es
names-small x l o [] h = tt
names-small x l o (e ∷ es) h = (
  ⊎_elim
      (λ (b : e.kind < 16). let z : e.number ≡ 0 = h.1 b in omega arith)
      (λ (b : 16 ≤ e.kind). let z : e.number < length x = by-small x o e.number e.kind b (h.0 b) in omega arith)
      (lt-or-ge e.kind 16),
  names-small x l (owner_behind o e) es h.2,
)

reading_small : (x b : List ℕ) (room : ℕ) → All Small (read_all x b room).entries
reading_small x b room = by (parse x) refl
  where
    by : (p : Parsed Table) → parse x ≡ p → All Small (read_all x b room).entries
    by (bad n y) e = unfold read_all read_parsed in rw (e, read_all) tt
    by (good t y) e = names-small x (accepted-length x t y e) nobody (read_all x b room).entries (reading-names x t y e b room)

-- Classes left out

taken-same : (n : ℕ) (es : List Entry) → SameNumbers (take n es) es
unfolding number_in
taken-same zero es k h = absurd (omega arith)
taken-same (suc n) [] k h = absurd (omega arith)
taken-same (suc n) (e ∷ es) zero h = refl
taken-same (suc n) (e ∷ es) (suc k) h = taken-same n es k (omega arith)

shortened_same : (o : Option Lost) (r : Reading) → SameNumbers (shortened o r).entries r.entries
unfolding shortened
shortened_same None r k h = refl
shortened_same (Some l) r k h = taken-same l.index r.entries k h

left-out-same : (ks : ℕ → Bool) (ke : ℕ → ℕ → Bool) (x : List ℕ) → Good x → (b : List ℕ) (room : ℕ)
    → SameNumbers (read_all (leave ks ke x) b room).entries (read_all x b room).entries
left-out-same ks ke x g b room =
    subst (λ r. SameNumbers r.entries (read_all x b room).entries) (sym (demand-3≡ ks ke x g b room))
    (shortened_same (missed ks ke (read_all x b room).entries) (read_all x b room))

left-out-calls : (ks : ℕ → Bool) (ke : ℕ → ℕ → Bool) (x b : List ℕ) (c d : Call) → Good x → Contract x b c
    → Contract (leave ks ke x) b d → length d.before ≡ length c.before → SameNumbers (listed_by d) (listed_by c)
left-out-calls ks ke x b c d g p q l =
    let short : listed_by d ≡ (read_all (leave ks ke x) b (length c.before)).entries =
    lists-entries (leave ks ke x) b d q ∙ ap (λ n. (read_all (leave ks ke x) b n).entries) l in
    subst (λ es. SameNumbers es (listed_by c)) (sym short)
    (subst (SameNumbers _) (sym (lists-entries x b c p)) (left-out-same ks ke x g b (length c.before)))

pub records : Records
records = record {
  names = reads-names;
  names-called = λ x b c g p. subst (Names x nobody) (sym (lists-entries x b c p)) (reads-names x g b (length c.before));
  small = reading_small;
  left_out = left-out-same;
  left-out-called = left-out-calls;
  own-bytes = own-bytes;
}
