-- For the proofs alone: how far a search over functions is, and what is known then.
use Rattle.std.specs.Prelude.{◌≡◌, ◌≢◌, ◌≤◌, ◌<◌, ◌⊎◌, ℕ, ◌+◌, ◌*◌, Bool, List, [], ◌∷◌, ◌++◌, length}
use Rattle.std.specs.Prelude.{◌-◌, true, false}
use Rattle.std.specs.Prelude.{Option, Some, None, set, slice_get, take, drop}
use Rattle.call_groups.specs.CallGraph.{In, call, calls_of, Calls, Reaches}
use Rattle.call_groups.specs.declared.search.Call.{Call}
use Rattle.call_groups.specs.declared.search.Standing.{Standing}
use Rattle.call_groups.specs.declared.search.Standing.TheVariants.{New, OnPath, Grouped}
use Rattle.call_groups.specs.declared.search.Visit.{Visit}
use Rattle.call_groups.specs.declared.search.Search.{Search}

abbrev pub IsNew : List Standing → ℕ → Type 0
IsNew standings f = slice_get standings f ≡ Some New

abbrev pub one_if_new : Standing → ℕ
one_if_new New = 1
one_if_new (OnPath place) = 0
one_if_new (Grouped group) = 0

-- the number of functions that weren't met yet
abbrev pub unmet : List Standing → ℕ
unmet [] = 0
unmet (s ∷ ss) = one_if_new s + unmet ss

-- what is left to do: each function is met once and left once
abbrev pub left : List Standing → List Visit → ℕ
left standings visits = 2 * unmet standings + length visits

-- no function is new again
abbrev pub Further : List Standing → List Standing → Type 0
Further before after = (f : ℕ) → IsNew after f → IsNew before f

abbrev pub visit : ℕ → ℕ → ℕ → Visit
visit f p n = record { function = f; place = p; next = n }

-- these become a group
abbrev pub group_all : ℕ → List ℕ → List Standing → List Standing
group_all g [] ss = ss
group_all g (f ∷ fs) ss = group_all g fs (set ss f (Grouped g))

-- What is known of the groups that are found. They are closed under calls, and a call never leads to a greater number.
pub record Found (rs : List (List Call)) (ss : List Standing) (order : List ℕ) : Type 0 where
  pub closed :
      (a g b : ℕ) (k : Bool) → slice_get ss a ≡ Some (Grouped g) → Calls rs a b k → b < length rs →
      (h : ℕ) × (slice_get ss b ≡ Some (Grouped h)) × (h ≤ g)
  pub together :
      (a b g : ℕ) → slice_get ss a ≡ Some (Grouped g) → slice_get ss b ≡ Some (Grouped g) → Reaches rs a b
  pub below : (a g : ℕ) → slice_get ss a ≡ Some (Grouped g) → g < length order
  pub listed : (a g : ℕ) → slice_get ss a ≡ Some (Grouped g) → In a order
  pub ordered : (a : ℕ) → In a order → (g : ℕ) × (slice_get ss a ≡ Some (Grouped g))
  pub sorted :
      (i j a b g h : ℕ) → i ≤ j → slice_get order i ≡ Some a → slice_get order j ≡ Some b →
      slice_get ss a ≡ Some (Grouped g) → slice_get ss b ≡ Some (Grouped h) → g ≤ h

-- each piece that begins at or before place p of the path begins at or before place q
abbrev pub Keeps : List ℕ → ℕ → ℕ → Type 0
Keeps pieces p q = (s : ℕ) → In s pieces → s ≤ p → s ≤ q

-- What is known of a callee whose call was followed from place p of the path: it isn't new, and where it is on the
-- path, no piece begins after it and up to p.
abbrev pub Settles : List ℕ → ℕ → Option Standing → Type 0
Settles pieces p None = Unit {0}
Settles pieces p (Some New) = ⊥
Settles pieces p (Some (OnPath q)) = Keeps pieces p q
Settles pieces p (Some (Grouped g)) = Unit {0}

-- the call of this number of the function at place p was followed
abbrev pub IsFollowed : List Visit → ℕ → ℕ → Type 0
IsFollowed visits p j = (v : Visit) → In v visits → v.place ≡ p → j < v.next

abbrev pub Rises : List ℕ → Type 0
Rises xs = (i j x y : ℕ) → i < j → slice_get xs i ≡ Some x → slice_get xs j ≡ Some y → x < y

-- What is known of the path. The functions of a piece reach each other and those of all later pieces. Each piece begins
-- with a function that is still visited.
pub record Stands
    (rs : List (List Call)) (ss : List Standing) (path pieces : List ℕ) (visits : List Visit)
    : Type 0 where
  pub on_path : (f p : ℕ) → slice_get ss f ≡ Some (OnPath p) → slice_get path p ≡ Some f
  pub stands : (f p : ℕ) → slice_get path p ≡ Some f → slice_get ss f ≡ Some (OnPath p)
  pub joined :
      (p q f g : ℕ) → slice_get path p ≡ Some f → slice_get path q ≡ Some g → Keeps pieces p q → Reaches rs f g
  pub opens : (s : ℕ) → In s pieces → (v : Visit) × In v visits × (v.place ≡ s)
  pub visited : (v : Visit) → In v visits → slice_get path v.place ≡ Some v.function
  pub visits_rise :
      (i j : ℕ) (v w : Visit) → i < j → slice_get visits i ≡ Some v → slice_get visits j ≡ Some w → v.place < w.place
  pub pieces_rise : Rises pieces
  pub first : 0 < length path → In 0 pieces

abbrev pub Followed : List (List Call) → List Standing → List ℕ → List ℕ → List Visit → Type 0
Followed rs ss path pieces visits =
    (p f j b : ℕ) (k : Bool) → slice_get path p ≡ Some f → slice_get (calls_of rs f) j ≡ Some (call b k) →
    IsFollowed visits p j → Settles pieces p (slice_get ss b)

-- all that is known between two steps of the search
pub record Sound
    (rs : List (List Call)) (ss : List Standing) (path pieces : List ℕ) (visits : List Visit) (order : List ℕ)
    : Type 0 where
  pub size : length ss ≡ length rs
  pub room : unmet ss + length path + length order ≤ length rs
  pub found : Found rs ss order
  pub stands : Stands rs ss path pieces visits
  pub followed : Followed rs ss path pieces visits

-- Pieces before and after a call back to place q of the path: those that begin at or before q are left.
pub record Joined (old new : List ℕ) (q : ℕ) : Type 0 where
  pub some : (s : ℕ) → In s new → In s old
  pub kept : (s : ℕ) → In s old → s ≤ q → In s new
  pub low : (s : ℕ) → In s new → s ≤ q
  pub rise : Rises old → Rises new

-- a place in the pieces: those before it begin at or before q, the others after q
pub record Cuts (pieces : List ℕ) (q n : ℕ) : Type 0 where
  pub within : n ≤ length pieces
  pub low : (i s : ℕ) → i < n → slice_get pieces i ≡ Some s → s ≤ q
  pub high : (i s : ℕ) → n ≤ i → slice_get pieces i ≡ Some s → q < s

-- ---- the steps of the search, by its fields

abbrev pub IsSound : List (List Call) → Search → List Visit → Type 0
IsSound rs s visits = Sound rs s.standings.items s.path.items s.pieces.items visits s.order.items

-- the search between two functions from which it begins
pub record IsIdle (rs : List (List Call)) (s : Search) : Type 0 where
  pub sound : IsSound rs s s.visits.items
  pub nothing : s.visits.items ≡ []

-- a new function comes onto the path
pub record Meets (old new : Search) (f : ℕ) : Type 0 where
  pub standings : new.standings.items ≡ set old.standings.items f (OnPath (length old.path.items))
  pub path : new.path.items ≡ old.path.items ++ f ∷ []
  pub pieces : new.pieces.items ≡ old.pieces.items ++ length old.path.items ∷ []
  pub visits : new.visits.items ≡ old.visits.items ++ visit f (length old.path.items) 0 ∷ []
  pub order : new.order.items ≡ old.order.items

-- all stays but the pieces
pub record KeepsRest (old new : Search) : Type 0 where
  pub standings : new.standings.items ≡ old.standings.items
  pub path : new.path.items ≡ old.path.items
  pub visits : new.visits.items ≡ old.visits.items
  pub order : new.order.items ≡ old.order.items

-- the functions from place p of the path on become a group
pub record Groups (old new : Search) (p : ℕ) : Type 0 where
  pub standings :
      new.standings.items ≡ group_all (length old.order.items) (drop p old.path.items) old.standings.items
  pub path : new.path.items ≡ take p old.path.items
  pub visits : new.visits.items ≡ old.visits.items
  pub order : new.order.items ≡ old.order.items ++ drop p old.path.items

-- what leaving the function in place p does: where it begins the last piece, that becomes a group
pub record Closes (old new : Search) (p : ℕ) : Type 0 where
  pub pieces : old.pieces.items ≡ new.pieces.items ++ p ∷ []
  pub groups : Groups old new p

pub record Stays (old new : Search) (p : ℕ) : Type 0 where
  pub pieces : new.pieces.items ≡ old.pieces.items
  pub other : (ps : List ℕ) (s : ℕ) → old.pieces.items ≡ ps ++ s ∷ [] → s ≢ p
  pub rest : KeepsRest old new

abbrev pub Leaves : Search → Search → ℕ → Type 0
Leaves old new p = Closes old new p ⊎ Stays old new p

-- the function in place p is the last that is visited, and all its calls were followed
pub record IsDone (rs : List (List Call)) (s : Search) (f p : ℕ) : Type 0 where
  pub next : ℕ
  pub all : length (calls_of rs f) ≤ next
  pub sound : IsSound rs s (s.visits.items ++ visit f p next ∷ [])

-- it is the last that is visited, and the call before number `next` is one of a new function
pub record IsCalling (rs : List (List Call)) (s : Search) (f p callee next : ℕ) : Type 0 where
  pub at : ℕ
  pub waits : Bool
  pub call_at : slice_get (calls_of rs f) at ≡ Some (call callee waits)
  pub following : next ≡ at + 1
  pub sound : IsSound rs s (s.visits.items ++ visit f p at ∷ [])
  pub is_new : IsNew s.standings.items callee

-- what following a call of a function that is so does to the pieces
abbrev pub JoinsBy : Option Standing → List ℕ → List ℕ → Type 0
JoinsBy None old new = new ≡ old
JoinsBy (Some New) old new = new ≡ old
JoinsBy (Some (OnPath q)) old new = Joined old new q
JoinsBy (Some (Grouped g)) old new = new ≡ old

pub record Settled (old new : Search) (callee : ℕ) : Type 0 where
  pub joins : JoinsBy (slice_get old.standings.items callee) old.pieces.items new.pieces.items

-- whether p is the last of a list
abbrev pub EndsIn : Bool → List ℕ → ℕ → Type 0
EndsIn true xs p = xs ≡ take (length xs - 1) xs ++ p ∷ []
EndsIn false xs p = (ps : List ℕ) (s : ℕ) → xs ≡ ps ++ s ∷ [] → s ≢ p

-- the call in place n of a row is one of b
pub record CallsAt (row : List Call) (n b : ℕ) : Type 0 where
  pub waits : Bool
  pub at : slice_get row n ≡ Some (call b waits)
