-- For private contracts alone: what a call is run on, as trees that lie in the store.
--
-- Where a holds Cons(1, Nil) in the cell at 0, `b = rev(a, Cons(2, Nil))` is run on the words of a's tree and of a tree
-- with a new cell; the latter is noted as a value of the line.
use Rattle.std.specs.Prelude.{◌≡◌, ℕ, ◌+◌, ◌-◌, ◌≤◌, List, [], ◌∷◌, ◌++◌, map}
use Rattle.cell_store.specs.Made.{Loading}
use Rattle.fip_base.specs.declared.plain.Param.{Param}
use Rattle.fip_language.specs.Core.{Name}
use Rattle.fip_language.specs.Every.{Every}
use Rattle.fip_language.specs.Store.{Placed, Parts, MoreParts, value_of, values_of, word_of, words_of, uses, uses_of_all, count}
use Rattle.fip_language.specs.Table.{Table}
use Rattle.fip_language.specs.Values.{Value, Values, End, More}
use Rattle.fip_language.specs.declared.limits.TheConstants.{MOST_FIELDS}
use Rattle.session_lines.specs.session_semantics.Lines.{Given as Written, Held as Named, Fresh as New}
use Rattle.session_lines.specs.session_semantics.Talk.{written, credits_of}
use Rattle.session_values.specs.Made.{AreMade}
use Rattle.session_correctness.specs.Lodging.{Lodged, lodged_uses, IsTree, AreTrees, fresh_in, fresh_uses}
use Rattle.value_text.specs.Loaded.{types_of, live, free_in, AreZero, cell_words}
use Rattle.value_text.specs.Standing.{Stands, StandAll}
use Rattle.fip_session.specs.declared.ready.Fresh.{Fresh}
use Rattle.fip_session.specs.declared.ready.Ready.{Ready}

-- what is noted of an argument that is written: its type, its word, and whether it is lent
abbrev pub fresh_one : Param → Written → Placed → List Fresh
fresh_one q (New w) x = record { held = record { ty = q.ty; word = word_of x }; is_lent = q.lent } ∷ []
fresh_one q (Named name) x = []

abbrev pub fresh_list : List Param → List Written → Parts → List Fresh
fresh_list (q ∷ qs) (g ∷ gs) (MoreParts x xs) = fresh_one q g x ++ fresh_list qs gs xs
fresh_list qs gs xs = []

-- The trees of what is held stand, in cells that aren't released.
pub record Lie (tb : Table) (ls : List Lodged) (l : Loading) : Type 0 where
  pub stand : Every (λ h. Stands tb l.cells h.type h.tree) ls
  pub alive : (p : ℕ) → 1 ≤ lodged_uses ls p → live l p ≡ 1

-- One argument more has its word, which stands for a tree of this value.
pub record IsPut (tb : Table) (ls : List Lodged) (before : List Name) (q : Param) (g : Written) (v : Value)
    (old new : Loading) (r s : Ready) : Type 0 where
  pub tree : Placed
  pub given : IsTree tb ls before q g tree
  pub value : value_of tree ≡ v
  pub stands : Stands tb new.cells q.ty tree
  pub word : s.words.items ≡ r.words.items ++ word_of tree ∷ []
  pub noted : s.values.items ≡ r.values.items ++ fresh_one q g tree
  pub made : AreMade old new (λ p. fresh_in g tree p)
  pub free : (k : ℕ) → k ≤ MOST_FIELDS → free_in new k ≡ free_in old k - written k (g ∷ []) (More v End)
  pub alive : (p : ℕ) → 1 ≤ uses p tree → live new p ≡ 1

-- All arguments have their words.
pub record ArePut (tb : Table) (ls : List Lodged) (qs : List Param) (gs : List Written) (vs : Values)
    (old new : Loading) (r : Ready) : Type 0 where
  pub trees : Parts
  pub given : AreTrees tb ls [] qs gs trees
  pub values : values_of trees ≡ vs
  pub stand : StandAll tb new.cells (types_of qs) trees
  pub words : r.words.items ≡ words_of trees
  pub noted : r.values.items ≡ fresh_list qs gs trees
  pub made : AreMade old new (λ p. fresh_uses gs trees p)
  pub free : (k : ℕ) → k ≤ MOST_FIELDS → free_in new k ≡ free_in old k - written k gs vs
  pub alive : (p : ℕ) → 1 ≤ uses_of_all p trees → live new p ≡ 1
  pub lie : Lie tb ls new

-- And the cells of the credits are made.
pub record IsReady (tb : Table) (ls : List Lodged) (qs : List Param) (credits : List ℕ) (gs : List Written)
    (vs : Values) (old new : Loading) (r : Ready) : Type 0 where
  pub trees : Parts
  pub spares : List ℕ
  pub given : AreTrees tb ls [] qs gs trees
  pub values : values_of trees ≡ vs
  pub stand : StandAll tb new.cells (types_of qs) trees
  pub zero : AreZero new.cells spares credits
  pub words : r.words.items ≡ words_of trees ++ cell_words spares
  pub noted : r.values.items ≡ fresh_list qs gs trees
  pub credits_are : r.credits.items ≡ cell_words spares
  pub made : AreMade old new (λ p. fresh_uses gs trees p + count p spares)
  pub free : (k : ℕ) → k ≤ MOST_FIELDS →
      free_in new k ≡ free_in old k - (written k gs vs + credits_of k credits)
  pub lie : Lie tb ls new
