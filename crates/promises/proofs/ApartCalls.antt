-- Two calls that meet the contract, of a stream and of that stream without a packet: what the first listed is what the rules list, and so
-- are result and list of the second.
use mathlib.Core.Path.{◌≡◌, sym, ap, subst, ◌∙◌}
use Prim.Native.Nat.{ℕ, ◌-◌, ◌*◌, ◌<◌}
use mathlib.Core.List.{List}
use lib.ListN.{length}
use Rattle.rules.specs.declared.Entry.{Entry}
use Rattle.rules.specs.declared.Report.{Report}
use Rattle.rules.specs.declared.Verdict.TheVariants.{Accepted}
use Rattle.rules.specs.Place.{bit_place}
use Rattle.rules.specs.Verdict.{number_of, place_of, first_of, second_of}
use Rattle.rules.specs.Read.{Reading, read_all, result_of, list_after}
use Rattle.promises.specs.Demands.{Call, call, listed_by, Contract}
use Rattle.promises.specs.Apart.{from_packet, total_in, packets_in, list_without, bytes_without, PacketRemoved}
use Rattle.promises.specs.Apart.{ApartOfCalls, TwoStreams}
use Rattle.promises.proofs.Calls.{lists-entries}
use Rattle.promises.proofs.Promised.{Ensured, contract}
use Rattle.promises.proofs.Apart.{apart}

module _ (x b b' : List ℕ) (c d : Call) (h : Contract x b c) (h' : Contract x b' d) (k : ℕ) (z : c.result.number ≡ 0)
    (two : 1 < packets_in (listed_by c))
    (one : k < packets_in (listed_by c)) (e : b' ≡ bytes_without k (listed_by c) b) (n : length d.before ≡ length c.before) where
  abbrev full : Reading
  full = read_all x b (length c.before)

  listed : listed_by c ≡ full.entries
  listed = lists-entries x b c h

  -- the reading of what is left, by what the first call listed
  abbrev left : List Entry → Reading
  left es = record { entries = list_without k es; verdict = Accepted (bit_place (8 * length b - total_in (from_packet k es))) }

  accepted : number_of full.verdict ≡ 0
  unfolding result_of
  accepted = sym (ap (λ r. r.number) h.result) ∙ z

  reads : read_all x b' (length d.before) ≡ left (listed_by c)
  reads =
      (λ i. read_all x (e i) (n i)) ∙ ap (λ es. read_all x (bytes_without k es b) (length c.before)) listed
      ∙ apart x b (length c.before) k accepted (subst (λ es. 1 < packets_in es) listed two) (subst (λ es. k < packets_in es) listed one)
      ∙ ap left (sym listed)

  removed : PacketRemoved k b c d
  unfolding result_of list_after number_of place_of first_of second_of
  removed = record { result = h'.result ∙ ap result_of reads; list = h'.list ∙ ap (λ r. list_after r d.before) reads }

pub apart-calls : ApartOfCalls
apart-calls x b b' c d h h' k z two one e n = removed x b b' c d h h' k z two one e n

pub two-streams : (x b b' : List ℕ) (r : Report) (ws ws' : List ℕ) (r' : Report) (vs vs' : List ℕ) → Ensured x b r ws ws'
    → Ensured x b' r' vs vs'
    → TwoStreams x b b' (call r ws ws') (call r' vs vs')
two-streams x b b' r ws ws' r' vs vs' e f =
    let h = contract x b r ws ws' e in
    let k = contract x b' r' vs vs' f in
    record { first = h; second = k; apart = apart-calls x b b' _ _ h k }
