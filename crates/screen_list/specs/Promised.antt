-- What is promised of calls of `fill`.
use Rattle.std.specs.Prelude.{ℕ, ◌+◌, ◌<◌, ◌≤◌, ◌≡◌, List, [], ◌∷◌, ◌++◌, true, false, length}
use Rattle.screen_list.specs.declared.Mark.{Mark}
use Rattle.screen_list.specs.Lines.{lines}
use Rattle.screen_list.specs.Rest.{first_mark, rest}
use Rattle.screen_list.specs.Fill.{filled, written}

-- from the first mark on all lines are still to come
abbrev pub FirstRest : Type 0
FirstRest = (t s ws : List ℕ) (n : ℕ) → rest t s ws n first_mark ≡ lines t s ws n

-- What one call does, from any mark and in any room: it writes the beginning of what is still to come, says how many bytes that is, and
-- comes to where the rest of it begins; the room has them
pub record Goes (t s ws : List ℕ) (n room : ℕ) (m : Mark) : Type 0 where
  pub begins : written t s ws n room m ++ rest t s ws n (filled t s ws n room m).mark ≡ rest t s ws n m
  pub counts : (filled t s ws n room m).used ≡ length (written t s ws n room m)
  pub fits : (filled t s ws n room m).used ≤ room
  -- where it says so, nothing is left; and it says so, or less than a piece's room is left: in 256 bytes something is written
  pub ends : (filled t s ws n room m).done ≡ true → rest t s ws n (filled t s ws n room m).mark ≡ []
  pub goes : (filled t s ws n room m).done ≡ false → room < (filled t s ws n room m).used + 256

abbrev pub EachGoes : Type 0
EachGoes = (t s ws : List ℕ) (n room : ℕ) (m : Mark) → Goes t s ws n room m

-- Calls one behind another, each in its own room and from the mark that the one before came to: where they come to, and what they have
-- written
unfoldable pub came_to : List ℕ → List ℕ → List ℕ → ℕ → List ℕ → Mark → Mark
came_to t s ws n [] m = m
came_to t s ws n (room ∷ rooms) m = came_to t s ws n rooms (filled t s ws n room m).mark

unfoldable pub have_written : List ℕ → List ℕ → List ℕ → ℕ → List ℕ → Mark → List ℕ
have_written t s ws n [] m = []
have_written t s ws n (room ∷ rooms) m =
    written t s ws n room m ++ have_written t s ws n rooms (filled t s ws n room m).mark

-- at every time it is the beginning of the lines
abbrev pub LinesBegun : Type 0
LinesBegun =
    (t s ws : List ℕ) (n : ℕ) (rooms : List ℕ)
    → have_written t s ws n rooms first_mark ++ rest t s ws n (came_to t s ws n rooms first_mark) ≡ lines t s ws n

-- and once a call says that nothing is left, exactly the lines
abbrev pub LinesWritten : Type 0
LinesWritten =
    (t s ws : List ℕ) (n : ℕ) (rooms : List ℕ) (room : ℕ)
    → (filled t s ws n room (came_to t s ws n rooms first_mark)).done ≡ true
    → have_written t s ws n rooms first_mark ++ written t s ws n room (came_to t s ws n rooms first_mark) ≡ lines t s ws n
