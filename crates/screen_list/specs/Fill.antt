-- What a call writes, and how far it comes: pieces one behind another, each where the room has 256 bytes left.
use Rattle.std.specs.Prelude.{ℕ, zero, suc, ◌+◌, ◌-◌, List, [], ◌++◌, Bool, true, false, length, ltb, leb}
use Rattle.screen_head.specs.Head.{Five}
use Rattle.screen_line.specs.Pieces.{piece, pieces}
use Rattle.screen_list.specs.declared.Mark.{Mark}
use Rattle.screen_list.specs.declared.Put.{Put}
use Rattle.screen_list.specs.declared.Filled.{Filled}
use Rattle.screen_list.specs.Lines.{entries_in, entry_at, settled}
use Rattle.screen_list.specs.Rest.{mark_at}

-- whether a room of which so much is used is too full for a piece
unfoldable pub full : ℕ → ℕ → Bool
full room used = ltb (room - used) 256

-- n pieces of a line from the kth on: which one they come to, and what is laid
unfoldable pub laid_to : ℕ → List ℕ → ℕ → Five → ℕ → ℕ → ℕ → ℕ
laid_to zero s f e room used k = k
laid_to (suc n) s f e room used k =
    elim (full room used) [ true ↦ k | false ↦ laid_to n s f e room (used + length (piece s f e k)) (k + 1) ]

unfoldable pub laid_text : ℕ → List ℕ → ℕ → Five → ℕ → ℕ → ℕ → List ℕ
laid_text zero s f e room used k = []
laid_text (suc n) s f e room used k =
    elim (full room used) [
      | true ↦ []
      | false ↦ piece s f e k ++ laid_text n s f e room (used + length (piece s f e k)) (k + 1)
    ]

-- an entry's line from its kth piece on, with the frequency in front of it
unfoldable pub put_text : List ℕ → List ℕ → Five → ℕ → ℕ → ℕ → ℕ → List ℕ
put_text t s e room used k f = laid_text (pieces s e - k) s (settled t f e) e room used k

unfoldable pub put_to : List ℕ → List ℕ → Five → ℕ → ℕ → ℕ → ℕ → Put
put_to t s e room used k f =
    let to = laid_to (pieces s e - k) s (settled t f e) e room used k in
    record {
      piece = to;
      used = used + length (put_text t s e room used k f);
      frequency = settled t f e;
      whole = leb (pieces s e) to;
    }

abbrev pub filled_at : Mark → ℕ → Bool → Filled
filled_at m u d = record { mark = m; used = u; done = d }

-- n entries from entry i on
unfoldable pub filled_from : ℕ → List ℕ → List ℕ → List ℕ → ℕ → ℕ → ℕ → ℕ → ℕ → Filled
filled_from zero t s ws room used i k f = filled_at (mark_at i k f) used true
filled_from (suc n) t s ws room used i k f =
    let p = put_to t s (entry_at ws i) room used k f in
    elim p.whole [
      | true ↦ filled_from n t s ws room p.used (i + 1) 0 p.frequency
      | false ↦ filled_at (mark_at i p.piece f) p.used false
    ]

unfoldable pub written_from : ℕ → List ℕ → List ℕ → List ℕ → ℕ → ℕ → ℕ → ℕ → ℕ → List ℕ
written_from zero t s ws room used i k f = []
written_from (suc n) t s ws room used i k f =
    let p = put_to t s (entry_at ws i) room used k f in
    put_text t s (entry_at ws i) room used k f
    ++ elim p.whole [ true ↦ written_from n t s ws room p.used (i + 1) 0 p.frequency | false ↦ [] ]

-- by table, stream and the list's words, its first n entries, a room of so many bytes and a mark
unfoldable pub filled : List ℕ → List ℕ → List ℕ → ℕ → ℕ → Mark → Filled
filled t s ws n room m =
    filled_from (entries_in (length ws) n - m.entry) t s ws room 0 m.entry m.piece m.frequency

unfoldable pub written : List ℕ → List ℕ → List ℕ → ℕ → ℕ → Mark → List ℕ
written t s ws n room m =
    written_from (entries_in (length ws) n - m.entry) t s ws room 0 m.entry m.piece m.frequency
