-- Tests lead to the right clauses: a test whose sides do, a clause that is chosen, a test that isn't needed.
use Rattle.std.proofs.Common.{◌≡◌, refl, sym, ap, ◌∙◌, subst, arith, ℕ, suc, ◌≤◌, ◌<◌, Bool, true, false, List, Some, slice_get}
use Rattle.std.specs.Prelude.{if◌then◌else◌, ◌==◌}
use Rattle.std.proofs.lemmas.Bool.{eqb-true, eq-eqb}
use Rattle.tree_semantics.specs.fip_language.Values.{Value, Int, Node}
use Rattle.tree_semantics.specs.fip_language.Matching.{same_int}
use Rattle.tree_semantics.specs.fip_language.Table.{HasType}
use Rattle.tree_semantics.specs.fip_language.Every.{Among}
use Rattle.credit_check.specs.fip_trees.Tree.{Pattern}
use Rattle.code_rules.specs.cell_code.declared.code.Instr.{Instr}
use Rattle.tree_semantics.specs.Contents.{Contents}
use Rattle.tree_semantics.specs.Steps.{is_node, is_int}
use Rattle.match_knowledge.specs.declared.heads.Head.{Head}
use Rattle.match_knowledge.specs.declared.heads.Head.TheVariants.{Number, Tag}
use Rattle.match_knowledge.specs.declared.verdicts.Verdict.TheVariants.{Fits, Asks}
use Rattle.match_knowledge.specs.ValueHeads.{head, same_head}
use Rattle.match_knowledge.specs.Known.{Known, agrees, compare, side, has_asked, is_last}
use Rattle.match_knowledge.proofs.Facts.{same_int_is, same_int_refl}
use Rattle.match_knowledge.proofs.Split.{to_side}
use Rattle.match_knowledge.proofs.VerdictFacts.{misses}
use Rattle.lowering_relation.specs.Choosing.{place, followed, Reaches}
use Rattle.lowering_relation.specs.Written.{Written, size, settled, HasFrom, added}
use Rattle.lowering_relation.specs.Spots.{register, below}
use Rattle.lowering_relation.specs.Rows.{row_of}
use Rattle.lowering_relation.specs.Reading.{Reading, reading, Asked, asked, Shaped}
use Rattle.lowering_relation.specs.Opening.{taking, naming, Opened}
use Rattle.lowering_relation.specs.Landing.{Scene, entry, IsScene, SameBelow, IsFirst, Lands, Good, test_of, RuledOut, LeadsTo}
use Rattle.lowering_relation.proofs.Placing.{added_extends, one_longer, front, stands}
use Rattle.lowering_relation.proofs.Running.{reaches_on, goes_one}
use Rattle.lowering_relation.proofs.Knowing.{fits_known, last_asked, side_shaped}
use Rattle.lowering_relation.proofs.Readings.{reading_runs, reading_extends, ReadTo}
use Rattle.lowering_relation.proofs.Openings.{taking_runs, naming_runs, Taken, Names}
use Rattle.match_knowledge.proofs.fip_base.fip_language.Facts.{same_both_ways as both_ways}

lands_after : (s : Scene) (to : ℕ → ℕ) (code : List Instr) (p q : ℕ) (c0 cs ds : Contents) → Reaches code (place p cs) (place q ds) → Lands s to code q c0 ds → Lands s to code p c0 cs
lands_after s to code p q c0 cs ds r l = record {
  number = l.number;
  pattern = l.pattern;
  first = l.first;
  contents = l.contents;
  reaches = reaches_on code (place p cs) (place q ds) (place (to (entry s l.number)) l.contents) r l.reaches;
  same = l.same;
  opened = l.opened;
}

-- tests

node_test : (c : ℕ) (v : Value) → is_node c v ≡ same_head (Tag c) (head v)
node_test c (Int i) = refl
node_test c (Node d vs) = both_ways (d == c) (c == d) (λ e. eq-eqb c d (sym (eqb-true d c e))) (λ e. eq-eqb d c (sym (eqb-true c d e)))

int_test : (i : _) (v : Value) → is_int i v ≡ same_head (Number i) (head v)
int_test i (Int j) = both_ways (same_int j i) (same_int i j) (λ e. subst (λ z. same_int z j ≡ true) (same_int_is j i e) (same_int_refl j)) (λ e. subst (λ z. same_int z i ≡ true) (same_int_is i j e) (same_int_refl i))
int_test i (Node d vs) = refl

branch_to : (b c : Bool) (at target : ℕ) (cs : Contents) → b ≡ c → Some (place (if b then suc at else target) cs) ≡ Some (place (if c then suc at else target) cs)
branch_to b c at target cs e = ap (λ z. Some (place (if z then suc at else target) cs)) e

test_follows : (r : ℕ) (h : Head) (at : ℕ) (to : ℕ → ℕ) (label : ℕ) (cs : Contents) (b : Bool) → b ≡ same_head h (head (cs r)) → followed (place at cs) (Some (settled to (test_of r h label))) ≡ Some (place (if b then suc at else to label) cs)
test_follows r (Tag c) at to label cs b e = branch_to (is_node c (cs r)) b at (to label) cs (node_test c (cs r) ∙ sym e)
test_follows r (Number i) at to label cs b e = branch_to (is_int i (cs r)) b at (to label) cs (int_test i (cs r) ∙ sym e)

-- where a test leads
by_test : (s : Scene) (to : ℕ → ℕ) (code : List Instr) (b : Bool) (at target : ℕ) (c0 cs : Contents) → Reaches code (place at cs) (place (if b then suc at else target) cs) → (b ≡ true → Lands s to code (suc at) c0 cs) → (b ≡ false → Lands s to code target c0 cs) → Lands s to code at c0 cs
by_test s to code true at target c0 cs r f g = lands_after s to code at (suc at) c0 cs cs r (f refl)
by_test s to code false at target c0 cs r f g = lands_after s to code at target c0 cs cs r (g refl)

module _ (s : Scene) (is : IsScene s) where
  not_below : (z : ℕ) → z < s.low → Among z (below s.root) → ⊥
  not_below z lt m = let le = is.fresh z m in absurd (omega (arith, lt, le))

  root_apart : Among (register s.root) (below s.root) → ⊥
  root_apart = not_below (register s.root) is.used

  pub good_last : (to : ℕ → ℕ) (code : List Instr) (p : ℕ) (k : Known) (read : List ℕ) (i : ℕ) (q : Pattern) → slice_get s.patterns i ≡ Some q → compare (row_of q) k ≡ Asks → is_last s.table (row_of q) k ≡ true → Good s to code p (side true (row_of q) k) read → Good s to code p k read
  good_last to code p k read i q there asks last good c0 cs ty a sh same held =
      let v = c0 (register s.root) in
      let yes' = last_asked s.table s.type (row_of q) k v (is.typed i q there) ty sh asks a last in
      good c0 cs ty (to_side true (row_of q) k v asks a yes') (side_shaped s.table s.type true (row_of q) k v (is.typed i q there) ty sh a asks yes') same held

  pub good_tested : (n : ℕ) (to : ℕ → ℕ) (code : List Instr) (k : Known) (x : Reading) (i : ℕ) (q : Pattern) (a : Asked) (label : ℕ) → slice_get s.patterns i ≡ Some q → compare (row_of q) k ≡ Asks → asked (row_of q) k s.root ≡ Some a → n ≤ size x.written → HasFrom n (added (reading (row_of q) k s.root x).written (test_of a.register a.head label)) to code → Good s to code (size (added (reading (row_of q) k s.root x).written (test_of a.register a.head label))) (side true (row_of q) k) (reading (row_of q) k s.root x).read → Good s to code (to label) (side false (row_of q) k) (reading (row_of q) k s.root x).read → Good s to code (size x.written) k x.read
  good_tested n to code k x i q a label there asks e le has yes' no' c0 cs ty ag sh same held =
      lands_after s to code (size x.written) (size y.written) c0 cs read.reads.contents read.reads.reaches
      (by_test s to code (has_asked (row_of q) k v) (size y.written) (to label) c0 read.reads.contents goes
      (λ b. subst (λ z. Lands s to code z c0 read.reads.contents) (one_longer y.written test) (yes' c0 read.reads.contents ty (to_side true (row_of q) k v asks ag b) (side_shaped s.table s.type true (row_of q) k v (is.typed i q there) ty sh ag asks b) same_after read.holds))
      (λ b. no' c0 read.reads.contents ty (to_side false (row_of q) k v asks ag b) (side_shaped s.table s.type false (row_of q) k v (is.typed i q there) ty sh ag asks b) same_after read.holds))
    where
      v : Value
      v = c0 (register s.root)

      y : Reading
      y = reading (row_of q) k s.root x

      test : Instr
      test = test_of a.register a.head label

      before : HasFrom n y.written to code
      before = front n y.written (added y.written test) to code (added_extends y.written test) has

      read : ReadTo s.root v x y code cs a (has_asked (row_of q) k v)
      read = reading_runs n to code (row_of q) k s.root x cs v a e sh (same (register s.root) is.used) held is.differ root_apart le before

      grown : n ≤ size y.written
      grown = let g = (reading_extends (row_of q) k s.root x).grows in omega (arith, le, g)

      goes : Reaches code (place (size y.written) read.reads.contents) (place (if has_asked (row_of q) k v then suc (size y.written) else to label) read.reads.contents)
      goes = goes_one code (place (size y.written) read.reads.contents) _ (settled to test) (stands y.written test n to code grown has)
          (test_follows a.register a.head (size y.written) to label read.reads.contents (has_asked (row_of q) k v) (read.finds.tests ∙ ap (λ u. same_head a.head (head u)) (sym read.finds.there)))

      same_after : SameBelow s.low c0 read.reads.contents
      same_after z lt = read.reads.outside z (not_below z lt) ∙ same z lt

  first_is : (k : Known) (v : Value) (i : ℕ) (q : Pattern) → slice_get s.patterns i ≡ Some q → RuledOut s k i → compare (row_of q) k ≡ Fits → HasType s.table s.type v → agrees k v ≡ true → Shaped k v → IsFirst s v i q
  first_is k v i q there out f ty ag sh = record {
    there = there;
    fits = fits_known s.table s.type (row_of q) k v (is.typed i q there) ty sh f ag;
    before = λ j p lt at. misses (row_of p) k v (out j p lt at) ag;
  }

  pub good_taken : (n : ℕ) (to : ℕ → ℕ) (code : List Instr) (k : Known) (read : List ℕ) (w : Written) (i : ℕ) (q : Pattern) → s.takes ≡ true → slice_get s.patterns i ≡ Some q → RuledOut s k i → compare (row_of q) k ≡ Fits → n ≤ size w → HasFrom n (taking q s.root w) to code → LeadsTo s to code (size (taking q s.root w)) i → Good s to code (size w) k read
  good_taken n to code k read w i q takes there out f le has leads c0 cs ty ag sh same held = record {
    number = i;
    pattern = q;
    first = first;
    contents = taken.contents;
    reaches = reaches_on code (place (size w) cs) (place (size (taking q s.root w)) taken.contents) (place (to (entry s i)) taken.contents) taken.reaches (leads taken.contents);
    same = λ z lt. taken.outside z (not_below z lt) ∙ same z lt;
    opened = subst (λ b. Opened b q s.root v taken.contents) (sym takes) taken.opened;
  }
    where
      v : Value
      v = c0 (register s.root)

      first : IsFirst s v i q
      first = first_is k v i q there out f ty ag sh

      taken : Taken q s.root v w (taking q s.root w) code cs
      taken = taking_runs n to code q s.root w cs v first.fits (same (register s.root) is.used) (is.roomy i q there) is.differ root_apart le has

  pub good_named : (n : ℕ) (to : ℕ → ℕ) (code : List Instr) (k : Known) (x : Reading) (i : ℕ) (q : Pattern) → s.takes ≡ false → slice_get s.patterns i ≡ Some q → RuledOut s k i → compare (row_of q) k ≡ Fits → n ≤ size x.written → HasFrom n (naming q s.root x).written to code → LeadsTo s to code (size (naming q s.root x).written) i → Good s to code (size x.written) k x.read
  good_named n to code k x i q takes there out f le has leads c0 cs ty ag sh same held = record {
    number = i;
    pattern = q;
    first = first;
    contents = names.reads.contents;
    reaches = reaches_on code (place (size x.written) cs) (place (size (naming q s.root x).written) names.reads.contents) (place (to (entry s i)) names.reads.contents) names.reads.reaches (leads names.reads.contents);
    same = λ z lt. names.reads.outside z (not_below z lt) ∙ same z lt;
    opened = subst (λ b. Opened b q s.root v names.reads.contents) (sym takes) names.opened;
  }
    where
      v : Value
      v = c0 (register s.root)

      first : IsFirst s v i q
      first = first_is k v i q there out f ty ag sh

      names : Names q s.root v x (naming q s.root x) code cs
      names = naming_runs n to code q s.root x cs v first.fits (same (register s.root) is.used) held (is.roomy i q there) is.differ root_apart le has
