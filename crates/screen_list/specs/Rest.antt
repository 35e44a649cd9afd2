-- What is still to come from a mark on: the rest of its entry's pieces, and then the lines behind it.
use Rattle.std.specs.Prelude.{ℕ, zero, suc, ◌+◌, ◌-◌, List, [], ◌++◌, length}
use Rattle.screen_head.specs.Head.{Five}
use Rattle.screen_line.specs.Pieces.{piece, pieces}
use Rattle.screen_list.specs.declared.Mark.{Mark}
use Rattle.screen_list.specs.Lines.{entries_in, entry_at, settled, lines_from}

abbrev pub mark_at : ℕ → ℕ → ℕ → Mark
mark_at i k f = record { entry = i; piece = k; frequency = f }

abbrev pub first_mark : Mark
first_mark = mark_at 0 0 0

-- n pieces of a line from the kth on
unfoldable pub pieces_from : ℕ → List ℕ → ℕ → Five → ℕ → List ℕ
pieces_from zero s f e k = []
pieces_from (suc n) s f e k = piece s f e k ++ pieces_from n s f e (k + 1)

unfoldable pub rest_of : List ℕ → ℕ → Five → ℕ → List ℕ
rest_of s f e k = pieces_from (pieces s e - k) s f e k

-- with n entries left, the first of them entry i, from its piece k on
unfoldable pub rest_from : ℕ → List ℕ → List ℕ → List ℕ → ℕ → ℕ → ℕ → List ℕ
rest_from zero t s ws i k f = []
rest_from (suc n) t s ws i k f =
    rest_of s (settled t f (entry_at ws i)) (entry_at ws i) k ++ lines_from n t s ws (i + 1) (settled t f (entry_at ws i))

unfoldable pub rest : List ℕ → List ℕ → List ℕ → ℕ → Mark → List ℕ
rest t s ws n m = rest_from (entries_in (length ws) n - m.entry) t s ws m.entry m.piece m.frequency
