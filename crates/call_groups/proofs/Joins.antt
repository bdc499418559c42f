-- A call back into the path joins the pieces from there on.
use Rattle.std.proofs.Common.{◌≡◌, ℕ, List, [], ◌∷◌, ◌++◌, arith}
use Rattle.std.proofs.Common.{inl, inr}
use Rattle.std.specs.Prelude.{Option, Some, None, slice_get}
use Rattle.std.proofs.lemmas.Bool.{cases_lt}
use Rattle.call_groups.specs.CallGraph.{Reaches}
use Rattle.call_groups.specs.Search.{Stands, Followed, Settles, Keeps, visit, Joined}
use Rattle.call_groups.specs.declared.search.Call.{Call}
use Rattle.call_groups.specs.declared.search.Standing.{Standing}
use Rattle.call_groups.specs.declared.search.Standing.TheVariants.{New, OnPath, Grouped}
use Rattle.call_groups.specs.declared.search.Visit.{Visit}
use Rattle.call_groups.proofs.Lists.{in_end}
use Rattle.call_groups.proofs.Paths.{joins}
use Rattle.call_groups.proofs.Tops.{piece_place}

pub keeps_low : (old new : List ℕ) (q p : ℕ) → Joined old new q → Keeps new p q
keeps_low old new q p j s i l = j.low s i

settles_joined : (old new : List ℕ) (q p : ℕ) → Joined old new q → (o : Option Standing) → Settles old p o → Settles new p o
settles_joined old new q p j None h = tt
settles_joined old new q p j (Some New) h = h
settles_joined old new q p j (Some (OnPath r)) h = λ s i l. h s (j.some s i) l
settles_joined old new q p j (Some (Grouped g)) h = tt

pub followed_joined :
    (rs : List (List Call)) (ss : List Standing) (path old new : List ℕ) (vs : List Visit) (q : ℕ) →
    Joined old new q → Followed rs ss path old vs → Followed rs ss path new vs
followed_joined rs ss path old new vs q j h p f i b k at_p at_i l = settles_joined old new q p j (slice_get ss b) (h p f i b k at_p at_i l)

reaches_joined :
    (rs : List (List Call)) (ss : List Standing) (path old new : List ℕ) (vs : List Visit) (f p n g q : ℕ) →
    Stands rs ss path old (vs ++ visit f p n ∷ []) → slice_get path q ≡ Some g → Reaches rs f g → Joined old new q →
    (x y a b : ℕ) → slice_get path x ≡ Some a → slice_get path y ≡ Some b → Keeps new x y → Reaches rs a b
reaches_joined rs ss path old new vs f p n g q s at_q r j x y a b at_x at_y h =
    elim (cases_lt q x) [
      | inl l ↦
          let here : slice_get path p ≡ Some f = s.visited (visit f p n) (in_end vs (visit f p n)) in
          joins rs a f b
          (s.joined x p a f at_x here (λ z i m. piece_place rs ss path old vs (visit f p n) s z i))
          (joins rs f g b r (s.joined q y g b at_q at_y (λ z i m. h z (j.kept z i m) (omega arith))))
      | inr l ↦ s.joined x y a b at_x at_y (λ z i m. h z (j.kept z i (omega arith)) m)
    ]

pub stands_joined :
    (rs : List (List Call)) (ss : List Standing) (path old new : List ℕ) (vs : List Visit) (f p n g q : ℕ) →
    Stands rs ss path old (vs ++ visit f p n ∷ []) → slice_get path q ≡ Some g → Reaches rs f g → Joined old new q →
    Stands rs ss path new (vs ++ visit f p n ∷ [])
stands_joined rs ss path old new vs f p n g q s at_q r j =
    record {
      on_path = s.on_path;
      stands = s.stands;
      joined = reaches_joined rs ss path old new vs f p n g q s at_q r j;
      opens = λ z i. s.opens z (j.some z i);
      visited = s.visited;
      visits_rise = s.visits_rise;
      pieces_rise = j.rise s.pieces_rise;
      first = λ h. j.kept 0 (s.first h) (omega arith);
    }
