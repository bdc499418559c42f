-- What a text denotes, by computation: each phase's result is one, so it is the one that is computed here. The tokens
-- are cut off one after another, the grammar's machine reads the tree, and the instances and the types are numbered
-- for the case that each function is a root, and that each type is named by one.
use Rattle.std.proofs.Common.{◌≡◌, ◌≤◌, ℕ, Bool, true, false, ◌&&◌, if◌then◌else◌, List, [], ◌∷◌, ◌++◌, length, append-nil, append_assoc, refl, sym, ap, ap₂, subst, ◌∙◌, arith}
use Rattle.std.specs.List.{list_any}
use Rattle.std.proofs.lemmas.Bool.{and_parts}
use Rattle.std.specs.Prelude.{is_some, nat_le}
use Rattle.std.proofs.lemmas.Bool.Decides.{nat_tests}
use Rattle.source_report.specs.fip_language.declared.limits.TheConstants.{MOST_INSTANCES}
use Rattle.source_report.specs.fip_language.Core.{Core}
use Rattle.source_report.specs.fip_language.CoreForm.{core_form}
use Rattle.source_report.specs.fip_language.Every.{Among}
use Rattle.source_report.specs.fip_language.Mentions.{all_of}
use Rattle.source_report.specs.fip_language.Prefix.{Outcome, Accepted, Stopped, run}
use Rattle.source_report.specs.fip_language.Surface as Surface
use Rattle.source_report.specs.fip_grammar.Machine.{machine_step, machine_end, start}
use Rattle.source_report.specs.fip_grammar.Grammar.{Spells}
use Rattle.source_report.specs.fip_grammar.Limits.{IsSpelt}
use Rattle.source_report.proofs.fip_grammar.Exact.{spelled_is_accepted}
use Rattle.source_report.proofs.fip_grammar.Unique.{cut_once}
use Rattle.source_report.specs.fip_trees.Tree.{Program}
use Rattle.source_report.specs.reached_instances.closed_types.declared.closed.Head.TheVariants as H
use Rattle.source_report.specs.reached_instances.closed_types.Closed.{Closed, Applied, NoClosed, MoreClosed, same_closed}
use Rattle.source_report.specs.reached_instances.closed_types.Instances.{roots, calls_from, passed_to}
use Rattle.source_report.specs.reached_instances.closed_types.Numbering.{with_all, firsts}
use Rattle.source_report.specs.reached_instances.closed_types.Source.{Source}
use Rattle.source_report.specs.reached_instances.closed_types.TypeInstances.{type_roots, parts_of}
use Rattle.source_report.specs.static_params.Answers.{AreFew}
use Rattle.source_report.specs.static_params.FlatProgram.{Numbers, flat_program}
use Rattle.source_report.specs.static_params.FlatSource.{flat_source}
use Rattle.source_report.proofs.static_params.GoodTypes.{firsts_among}
use Rattle.source_report.proofs.static_params.TypeRows.{closed_same}
use Rattle.source_report.specs.type_check.Faults.{filled}
use Rattle.source_report.specs.Report.{IsParsed, IsTyped}
use Rattle.source_report.proofs.Once.{numbers_once}
use Rattle.library_texts.specs.ComesTo.{ComesTo}
use Rattle.library_texts.proofs.Cutting.{all_pieces, tokens_in, is_cut}
pub use Rattle.source_report.proofs.cell_lower.fip_language.Facts.{nat_le_true as at_most}

-- ---- the tree

abbrev pub tree_or_none : Outcome Surface.Program → Surface.Program
tree_or_none (Accepted x) = x
tree_or_none (Stopped at) = []

-- the tree of a text that is spelled
abbrev pub tree_in : List ℕ → Surface.Program
tree_in text = tree_or_none (run machine_step machine_end start (tokens_in text) 0)

-- ---- the numbers

abbrev pub none_left : List Closed → Bool
none_left [] = true
none_left (x ∷ xs) = false

abbrev pub met : Bool → Closed → List Closed → Bool → (Closed → List Closed → Bool) → Bool
met true x next again on = again
met false x [] again on = false
met false x (e ∷ es) again on = same_closed x e && on e es

-- After those that were seen, just the next ones are first in the list, in this order. The seen ones are written
-- out at each step, so that the rest of the list is looked at once.
abbrev pub follow : List Closed → List Closed → List Closed → Bool
follow seen next [] = none_left next
follow seen next (x ∷ xs) =
    met (list_any (λ y. same_closed x y) seen) x next (follow seen next xs) (λ e es. follow (seen ++ e ∷ []) es xs)

none_more : (seen next : List Closed) → none_left next ≡ true → seen ≡ seen ++ next
none_more seen [] h = sym (append-nil seen)
none_more seen (x ∷ xs) h = absurd (cc)

follows : (seen next xs : List Closed) → follow seen next xs ≡ true → with_all same_closed seen xs ≡ seen ++ next
follows seen next [] h = none_more seen next h
follows seen next (x ∷ xs) h =
    by (list_any (λ y. same_closed x y) seen) next (follows seen next xs) (λ e es. follows (seen ++ e ∷ []) es xs) h
  where
    by :
        (b : Bool) (next : List Closed) →
        (follow seen next xs ≡ true → with_all same_closed seen xs ≡ seen ++ next) →
        ((e : Closed) (es : List Closed) → follow (seen ++ e ∷ []) es xs ≡ true → with_all same_closed (seen ++ e ∷ []) xs ≡ (seen ++ e ∷ []) ++ es) →
        met b x next (follow seen next xs) (λ e es. follow (seen ++ e ∷ []) es xs) ≡ true →
        with_all same_closed (if b then seen else seen ++ x ∷ []) xs ≡ seen ++ next
    by true next again on h = again h
    by false [] again on h = absurd (cc)
    by false (e ∷ es) again on h =
        let parts = and_parts (same_closed x e) (follow (seen ++ e ∷ []) es xs) h in
        subst (λ y. with_all same_closed (seen ++ y ∷ []) xs ≡ seen ++ (e ∷ es)) (sym (closed_same x e parts.0)) (on e es parts.1 ∙ append_assoc seen (e ∷ []) es)

pub firsts_are : (ts xs : List Closed) → follow [] ts xs ≡ true → firsts same_closed xs ≡ ts
firsts_are ts xs h = follows [] ts xs h

-- Each function is a root and calls roots alone, and the types are those that the functions name.
pub record IsPlain (s : Source) (ts : List Closed) : Type 0 where
  pub instances : follow [] (roots s) (roots s ++ all_of (calls_from s) (roots s)) ≡ true
  pub passed : follow [] (roots s) (roots s ++ all_of passed_to (roots s)) ≡ true
  pub named : follow [] ts (type_roots s (roots s) (roots s)) ≡ true
  pub types : follow [] ts (type_roots s (roots s) (roots s) ++ all_of (parts_of s) ts) ≡ true
  pub few : nat_le (length (roots s)) MOST_INSTANCES ≡ true
  pub few_types : nat_le (length ts) MOST_INSTANCES ≡ true

-- a type without parameters, and one with this for its parameter
abbrev pub plain_type : ℕ → Closed
plain_type n = Applied (H.«Type» n) NoClosed

abbrev pub type_at : ℕ → Closed → Closed
type_at n c = Applied (H.«Type» n) (MoreClosed c NoClosed)

abbrev pub numbers_of : Source → List Closed → Numbers
numbers_of s ts = record { instances = roots s; types = ts }

pub plain_few : (s : Source) (ts : List Closed) → IsPlain s ts → AreFew s (numbers_of s ts)
plain_few s ts h = record {
  instances = record {
    instances = record {
      reached = λ x a. record { root = x; among = a; over = []; way = refl };
      ordered = sym (firsts_are (roots s) (roots s ++ all_of (calls_from s) (roots s)) h.instances);
    };
    few = at_most (length (roots s)) MOST_INSTANCES h.few;
  };
  passed = roots s;
  given = record {
    reached = λ x a. record { root = x; among = a; over = []; way = refl };
    ordered = sym (firsts_are (roots s) (roots s ++ all_of passed_to (roots s)) h.passed);
  };
  types = record {
    reached = λ x a. record {
      root = x;
      among = firsts_among same_closed (type_roots s (roots s) (roots s)) x
          (subst (λ us. Among x us) (sym (firsts_are ts (type_roots s (roots s) (roots s)) h.named)) a);
      over = [];
      way = refl;
    };
    ordered = sym (firsts_are ts (type_roots s (roots s) (roots s) ++ all_of (parts_of s) ts) h.types);
  };
  few_types = at_most (length ts) MOST_INSTANCES h.few_types;
}

-- ---- the program

abbrev pub program_of : Source → List Closed → Program
program_of s ts = filled (flat_program s (numbers_of s ts))

-- a text that is cut, whose tree has this core form
module _ (text : List ℕ) (cut : is_some (all_pieces (length text) text) ≡ true) (core : Core) (is : core_form (tree_in text) ≡ core) (ts : List Closed) where
  tree_is : (tree : Surface.Program) → IsSpelt text tree → tree ≡ tree_in text
  tree_is tree (us, end, c, spells, unbroken) =
      let same : us ≡ tokens_in text = (cut_once text us (tokens_in text) end _ c (is_cut text cut)).0 in
      sym (ap tree_or_none (spelled_is_accepted (tokens_in text) tree (subst (λ vs. Spells vs tree) same spells)))

  core_is : (c : Core) → IsParsed text c → c ≡ core
  core_is c h = h.is ∙ ap core_form (tree_is h.tree h.spelt) ∙ is

  typed_is : IsPlain (flat_source core) ts → (p : Program) → IsTyped text p → p ≡ program_of (flat_source core) ts
  typed_is plain p h =
      let same : h.flat.core ≡ core = core_is h.flat.core h.flat.declared.parsed in
      let numbers : h.flat.numbers ≡ numbers_of (flat_source core) ts =
      numbers_once (flat_source core) h.flat.numbers (numbers_of (flat_source core) ts) (subst (λ c. AreFew (flat_source c) h.flat.numbers) same h.flat.few) (plain_few (flat_source core) ts plain) in
      h.is ∙ ap filled (h.flat.is ∙ ap₂ (λ c n. flat_program (flat_source c) n) same numbers)

  pub comes_to : IsPlain (flat_source core) ts → (p : Program) → program_of (flat_source core) ts ≡ p → ComesTo text p
  comes_to plain p e q h = typed_is plain q h.tailed.credited.owned.matched.typed ∙ e
