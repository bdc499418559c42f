use Rattle.std.proofs.Common.{◌≡◌, ◌∙◌, ◌-◌, ◌<◌, ℕ, List, length, map, get_or, set, Option, Some, None, sym, ap, subst, refl, arith}
use Rattle.std.specs.Prelude.{slice_get, option_map}
use Rattle.std.proofs.lemmas.Option.{slice_get_read, slice_get-map}
use Rattle.std.proofs.lemmas.List.{length-set, length-map, length-replicate}
use Rattle.cell_code.specs.declared.kind.Label.{Label}
use Rattle.cell_code.specs.Plain.{plain_label}
use Rattle.code_rows.specs.Numbering.{IsNumberFrom}
use Rattle.code_rows.proofs.Steps.{first_numbers, number_put, numbers_from}
use Rattle.code_rows.proofs.labels.numbers_of.Goals as goal

pub loop-number-init : goal.loop-number-init
loop-number-init c =
    let maps = map plain_label c.args.labels.now in
    let items = c.in_ok-numbers.ensures in
    record {
      long = ap length items ∙ length-replicate c.args.count None;
      are = λ i l.
          subst (λ n. IsNumberFrom maps n i (get_or c.in_ok-numbers.numbers.items i None)) (length-map c.args.labels.now plain_label)
          (subst (λ xs. IsNumberFrom maps (length maps) i (get_or xs i None)) (sym items) (first_numbers maps c.args.count i));
    }

pub loop-number-preserved : goal.loop-number-preserved
loop-number-preserved c =
    let at = c.loop-number.number - 1 in
    let labels = c.args.labels.now in
    let maps = map plain_label labels in
    let test = c.loop-number-test.true in
    let least = c.loop-number.auto.number in
    let label = c.index-labels-number.result in
    let within : at < length labels = omega (arith, test, least) in
    let read : slice_get labels at ≡ Some label = slice_get_read labels (length labels) at label refl within c.index-labels-number.is in
    let there : slice_get maps at ≡ Some (plain_label label) = slice_get-map plain_label labels at ∙ ap (option_map plain_label) read in
    let before = c.loop-number.numbers.items in
    let like = c.alike_or_own-alike.ensures.alike label read in
    let there_too = slice_get-map plain_label labels c.alike_or_own-alike.result ∙ ap (option_map plain_label) like.1 in
    let put : c.put.new.numbers.items ≡ set before label.at (Some c.alike_or_own-alike.result) =
    c.put.ensures ∙ ap (λ (l : Label). set before l.at (Some c.alike_or_own-alike.result)) (sym c.index-labels-number.is) in
    record {
      long = ap length put ∙ length-set before label.at (Some c.alike_or_own-alike.result) ∙ c.loop-number.invariant.long;
      are =
          subst (λ (xs : List (Option ℕ)). (i : ℕ) → i < length xs → IsNumberFrom maps at i (get_or xs i None)) (sym put)
          (number_put maps before at c.alike_or_own-alike.result c.loop-number.number (plain_label label) (plain_label like.0) (omega (arith, test)) there there_too like.2 c.loop-number.invariant.are);
    }

pub returns : goal.returns
returns c =
    let maps = map plain_label c.args.labels.now in
    let numbers = c.loop-number.numbers.items in
    let test = c.loop-number-test.false in
    let first : c.loop-number.number ≡ 0 = omega (arith, test) in
    numbers_from c.args.labels.now c.args.count numbers c.requires.within c.loop-number.invariant.long
    (subst (λ n. (i : ℕ) → i < length numbers → IsNumberFrom maps n i (get_or numbers i None)) first c.loop-number.invariant.are)
