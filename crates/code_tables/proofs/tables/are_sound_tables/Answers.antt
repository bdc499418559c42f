use Rattle.std.proofs.Common.{◌≡◌, ◌↔◌, ◌∙◌, ◌≤◌, sym, subst, Bool, true, IsTrue, IfOk, Result, Ok, Err, length, arith}
use Rattle.std.proofs.lemmas.Bool.{false≢true}
use Rattle.fip_base.specs.declared.plain.NoMemory.{NoMemory}
use Rattle.fip_language.specs.Table.{constructors}
use Rattle.cell_code.specs.declared.code.Code.{Code}
use Rattle.cell_code.specs.Plain.{plain}
use Rattle.code_rules.specs.Limits.{most_types, most_functions}
use Rattle.code_rules.specs.Tables.{AreSoundTables}
use Rattle.code_tables.specs.Apart.{apart, is_some_name, none_met, function_names}
use Rattle.code_tables.specs.Rows.{is_bool_row, are_sound_rows}
use Rattle.code_tables.specs.Marks.{HaveValues}
use Rattle.code_tables.proofs.SoundRows.{tables_report, rows_sound, values_sound, names_sound}
use Rattle.code_tables.proofs.tables.are_sound_tables.Goals as goal

pub returns-then-not-branch : goal.returns-then-not-branch
returns-then-not-branch c = record {
  exact = (
    λ e. absurd (false≢true e),
    λ h. sym c.if-not-branch.true ∙ (c.in_ok-are_sound_rows.ensures ∙ rows_sound c.args.code.now h),
  );
}

pub returns-then-not-branch-2 : goal.returns-then-not-branch-2
returns-then-not-branch-2 c = record {
  exact = (
    λ e. absurd (false≢true e),
    λ h. sym c.if-not-branch-2.true ∙ c.in_ok-have_values.ensures.exact.1 (values_sound c.args.code.now h),
  );
}

decided : (c : Code) (r : Result Bool NoMemory) → length c.types ≤ most_types → length c.functions.items ≤ most_functions → is_bool_row (constructors c.types 1) ≡ true → are_sound_rows c.types c.types ≡ true → HaveValues c.types → IfOk r (λ own. own ≡ apart is_some_name none_met (function_names c.functions.items)) → IfOk r (λ sound. IsTrue sound ↔ AreSoundTables (plain c))
decided c (Ok b) types functions is_bool rows values names = (
  λ e. tables_report c types functions is_bool rows values (sym names ∙ e),
  λ h. names ∙ names_sound c h,
)
decided c (Err e) types functions is_bool rows values names = tt

pub returns : goal.returns
returns c =
    let code = c.args.code.now in
    record {
      exact =
          decided code c.have_own_names.result (omega arith) (omega arith)
          (sym c.has_bool.ensures ∙ c.if-not-has_bool.false)
          (sym c.in_ok-are_sound_rows.ensures ∙ c.if-not-branch.false)
          (c.in_ok-have_values.ensures.exact.0 c.if-not-branch-2.false)
          (subst (λ fs. IfOk c.have_own_names.result (λ own. own ≡ apart is_some_name none_met (function_names fs)))
          c.deref.ensures.value c.have_own_names.ensures);
    }
