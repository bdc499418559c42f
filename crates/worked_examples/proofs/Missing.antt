-- The missing patterns of the examples: a value that no row matches is shown, and each lesser constructor or number is
-- matched.
use Rattle.std.proofs.Common.{◌≡◌, ℕ, zero, suc, ◌<◌, pos, negsuc, Bool, true, false, true≢false, [], Some, refl, sym, subst, arith, FitsSigned}
use Rattle.std.specs.Int.{w64}
use Rattle.std.proofs.lemmas.Int.{fits_signed_from_abs}
use Rattle.std.proofs.lemmas.Bool.Decides.{nat_tests}
use Rattle.source_report.specs.fip_language.Values.{Value, Int, Node, End, More}
use Rattle.std.specs.Prelude.{codes, ◌==◌, ◌&&◌}
use Rattle.source_report.specs.fip_language.Table.{Shape, HasType, HaveTypes}
use Rattle.source_report.specs.match_knowledge.declared.heads.Head.{Head}
use Rattle.source_report.specs.match_knowledge.declared.heads.Head.TheVariants.{Number, Tag}
use Rattle.source_report.specs.match_knowledge.Patterns.{some_fits}
use Rattle.source_report.specs.match_knowledge.Known.{Known, Open, Is, Knowns, NoKnowns, MoreKnowns, agrees, agree_all}
use Rattle.source_report.specs.match_cover.Missing.{open_fields, Before, MayBe, IsMissingOf}
use Rattle.source_report.specs.instance_semantics.Example.{lists, a_shape}
use Rattle.worked_examples.specs.Matches.{two_or_none, just_one, one_or_two, literal}
use Rattle.source_report.proofs.cell_lower.fip_language.Facts.{both_left as both_hold}

small_fits : (n : ℕ) → n < 9 → FitsSigned w64 (pos n)
small_fits n h = fits_signed_from_abs w64 (pos n) (omega arith)

-- Cons(0, Nil)
one_zero : Value
one_zero = Node 1 (More (Int (pos 0)) (More (Node 0 End) End))

-- ---- lists

same_shape : (s r : Shape) → Some s ≡ Some r → s ≡ r
same_shape s r h = cc

not_nil : (c : ℕ) (b : Bool) → ((0 == suc c) && b) ≡ true → ⊥
not_nil c b h =
    let same : (0 == suc c) ≡ true = both_hold (0 == suc c) b h in
    let is : 0 ≡ suc c = grind (arith, nat_tests) in
    omega arith

nil_is_matched : (ks : Knowns) (v : Value) → HasType lists.types 2 v → agrees (Is (Tag 0) ks) v ≡ true →
    some_fits two_or_none v ≡ false → ⊥
nil_is_matched ks (Int i) h k l = h
nil_is_matched ks (Node zero End) h k l = true≢false l
nil_is_matched ks (Node zero (More v vs)) (s, e, h) k l =
    subst (λ r. HaveTypes lists.types r.fields (More v vs)) (sym (same_shape (a_shape (codes "Nil") []) s e)) h
nil_is_matched ks (Node (suc c) vs) h k l = not_nil c (agree_all ks vs) k

none_before_cons : (g : Head) → Before g (Tag 1) → MayBe lists.types 2 two_or_none (λ k. k) 2 g → ⊥
none_before_cons (Number (pos n)) b m = b
none_before_cons (Number (negsuc n)) b m = b
none_before_cons (Tag zero) b (fs, is, (v, h, k, l)) = nil_is_matched (open_fields fs) v h k l
none_before_cons (Tag (suc c)) b m = absurd (omega arith)

none_before_nil : (at : Known → Known) (g : Head) → Before g (Tag 0) → MayBe lists.types 2 two_or_none at 2 g → ⊥
none_before_nil at (Number (pos n)) b m = b
none_before_nil at (Number (negsuc n)) b m = b
none_before_nil at (Tag c) b m = absurd (omega arith)

pub list_misses : IsMissingOf lists.types 2 two_or_none just_one
unfolding one_zero
list_misses = (
  refl,
  refl,
  tt,
  none_before_cons,
  _,
  (_, refl, refl),
  (one_zero, (_, refl, (small_fits 0 (omega arith), ((_, refl, tt), tt))), refl, refl),
  (
    refl,
    (
      (
        refl,
        refl,
        tt,
        none_before_nil (λ k. Is (Tag 1) (MoreKnowns (Open []) (MoreKnowns k NoKnowns))),
        _,
        (_, refl, refl),
        (one_zero, (_, refl, (small_fits 0 (omega arith), ((_, refl, tt), tt))), refl, refl),
        tt,
      ),
      tt,
    ),
  ),
)

-- ---- numbers

none_before_zero : (g : Head) → Before g (Number (pos 0)) → MayBe lists.types 0 one_or_two (λ k. k) 0 g → ⊥
none_before_zero (Number (pos n)) b m = absurd (omega arith)
none_before_zero (Number (negsuc n)) b m = b
none_before_zero (Tag c) b m = b

pub number_misses : IsMissingOf lists.types 0 one_or_two (literal 0)
number_misses = (
  refl,
  refl,
  tt,
  none_before_zero,
  [],
  (small_fits 0 (omega arith), refl),
  (Int (pos 0), small_fits 0 (omega arith), refl, refl),
  tt,
)

pub ruleset computed = (list_misses, number_misses)
