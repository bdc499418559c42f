-- What readers of several fields give, by what the fields' readers give.
use Rattle.std.proofs.Common.{◌≡◌, ◌≢◌, ℕ, ℤ, suc, ◌-◌, List, [], ◌∷◌, ◌^◌, ◌<◌, length, Bool, Option, Some, None, true, false, refl, sym, ap, ◌∙◌, subst, arith}
use Rattle.std.specs.Prelude.{◌==◌, if◌then◌else◌}
use Rattle.std.specs.Int.{w16, w32, w64, from_be_bytes, cast_signed, cast_unsigned, is_in_range}
use Rattle.std.proofs.lemmas.Bool.{eq-eqb, ltb-true}
use Rattle.std.proofs.lemmas.Int.{of_z-to_z}
use Rattle.fip_language.specs.Character.{is_upper}
use Rattle.fip_language.specs.Table.{Shape, Table}
use Rattle.cell_code.specs.declared.code.CodeKind.{CodeKind}
use Rattle.fip_language.specs.declared.Operator.{Operator}
use Rattle.fip_base.specs.declared.plain.Param.{Param}
use Rattle.cell_code.specs.declared.kind.From.{From}
use Rattle.cell_code.specs.declared.kind.Kind.{Kind}
use Rattle.cell_code.specs.declared.kind.Kind.TheVariants as K
use Rattle.cell_code.specs.declared.code.Instr.{Instr}
use Rattle.cell_code.specs.declared.code.Instr.TheVariants as I
use Rattle.code_file.specs.declared.tags.Version.{Version}
use Rattle.code_file.specs.declared.tags.Version.TheVariants.{First, Second}
use Rattle.cell_code.specs.Plain.{LabelMap, PlainFunction, PlainCode}
use Rattle.code_file.specs.Reading.{Reader, Give, ◌>>=◌, Answer, Got, Stop, read, with_front, is_byte, byte, any, two_reader, four_reader, eight_reader, times, list_reader, arguments_reader, set_reader, length_reader, is_name_byte, upper_name_reader, name_on, function_name_reader}
use Rattle.code_file.specs.Reading.{shape_reader, type_reader, table_reader, register_reader, from_body, from_reader, owned_reader, lent_reader, scalar_reader, credit_reader, kind_body, kind_reader, label_reader, operator_at, operator_reader}
use Rattle.code_file.specs.Reading.{const_reader, atom_reader, move_reader, arith_reader, test_reader, test_int_reader, peek_reader, take_reader, put_reader, drop_reader, free_reader, call_reader, tail_reader, ret_reader, jump_reader, instr_body, instr_reader}
use Rattle.code_file.specs.Reading.{code_kind_reader, param_reader, params_reader, size_reader, credits_reader, instrs_reader, labels_reader, function_reader, functions_reader, exactly, magic_reader, code_reader}
use Rattle.code_file.proofs.Readers.{read_bind, bind_got, bind_stop}
use Rattle.code_file.proofs.Parts.{part1, part2, part3, part4, part5, part6, part7, part8}
use Rattle.code_file.proofs.Steps.{differs, kind_last, instr_last}

got1 : {A Z : Type 0} → (r1 : Reader A) (to : A → Z) (b0 b1 : List ℕ) (x1 : A) → read r1 b0 ≡ Got x1 b1 → read (r1 >>= λ x1. Give (to x1)) b0 ≡ Got (to x1) b1
got1 r1 to b0 b1 x1 h0 = bind_got r1 (λ x1. Give (to x1)) b0 x1 b1 h0

stop1_1 : {A Z : Type 0} → (r1 : Reader A) (to : A → Z) (b0 : List ℕ) (left : ℕ) → read r1 b0 ≡ Stop left → read (r1 >>= λ x1. Give (to x1)) b0 ≡ Stop left
stop1_1 r1 to b0 left h0 = bind_stop r1 (λ x1. Give (to x1)) b0 left h0

got2 : {A B Z : Type 0} → (r1 : Reader A) (r2 : Reader B) (to : A → B → Z) (b0 b1 b2 : List ℕ) (x1 : A) (x2 : B) → read r1 b0 ≡ Got x1 b1 → read r2 b1 ≡ Got x2 b2 → read (r1 >>= λ x1. r2 >>= λ x2. Give (to x1 x2)) b0 ≡ Got (to x1 x2) b2
got2 r1 r2 to b0 b1 b2 x1 x2 h0 h1 = bind_got r1 (λ x1. r2 >>= λ x2. Give (to x1 x2)) b0 x1 b1 h0 ∙ got1 r2 (to x1) b1 b2 x2 h1

stop2_1 : {A B Z : Type 0} → (r1 : Reader A) (r2 : Reader B) (to : A → B → Z) (b0 : List ℕ) (left : ℕ) → read r1 b0 ≡ Stop left → read (r1 >>= λ x1. r2 >>= λ x2. Give (to x1 x2)) b0 ≡ Stop left
stop2_1 r1 r2 to b0 left h0 = bind_stop r1 (λ x1. r2 >>= λ x2. Give (to x1 x2)) b0 left h0

stop2_2 : {A B Z : Type 0} → (r1 : Reader A) (r2 : Reader B) (to : A → B → Z) (b0 b1 : List ℕ) (x1 : A) (left : ℕ) → read r1 b0 ≡ Got x1 b1 → read r2 b1 ≡ Stop left → read (r1 >>= λ x1. r2 >>= λ x2. Give (to x1 x2)) b0 ≡ Stop left
stop2_2 r1 r2 to b0 b1 x1 left h0 h1 = bind_got r1 (λ x1. r2 >>= λ x2. Give (to x1 x2)) b0 x1 b1 h0 ∙ stop1_1 r2 (to x1) b1 left h1

got3 : {A B C Z : Type 0} → (r1 : Reader A) (r2 : Reader B) (r3 : Reader C) (to : A → B → C → Z) (b0 b1 b2 b3 : List ℕ) (x1 : A) (x2 : B) (x3 : C) → read r1 b0 ≡ Got x1 b1 → read r2 b1 ≡ Got x2 b2 → read r3 b2 ≡ Got x3 b3 → read (r1 >>= λ x1. r2 >>= λ x2. r3 >>= λ x3. Give (to x1 x2 x3)) b0 ≡ Got (to x1 x2 x3) b3
got3 r1 r2 r3 to b0 b1 b2 b3 x1 x2 x3 h0 h1 h2 = bind_got r1 (λ x1. r2 >>= λ x2. r3 >>= λ x3. Give (to x1 x2 x3)) b0 x1 b1 h0 ∙ got2 r2 r3 (to x1) b1 b2 b3 x2 x3 h1 h2

stop3_1 : {A B C Z : Type 0} → (r1 : Reader A) (r2 : Reader B) (r3 : Reader C) (to : A → B → C → Z) (b0 : List ℕ) (left : ℕ) → read r1 b0 ≡ Stop left → read (r1 >>= λ x1. r2 >>= λ x2. r3 >>= λ x3. Give (to x1 x2 x3)) b0 ≡ Stop left
stop3_1 r1 r2 r3 to b0 left h0 = bind_stop r1 (λ x1. r2 >>= λ x2. r3 >>= λ x3. Give (to x1 x2 x3)) b0 left h0

stop3_2 : {A B C Z : Type 0} → (r1 : Reader A) (r2 : Reader B) (r3 : Reader C) (to : A → B → C → Z) (b0 b1 : List ℕ) (x1 : A) (left : ℕ) → read r1 b0 ≡ Got x1 b1 → read r2 b1 ≡ Stop left → read (r1 >>= λ x1. r2 >>= λ x2. r3 >>= λ x3. Give (to x1 x2 x3)) b0 ≡ Stop left
stop3_2 r1 r2 r3 to b0 b1 x1 left h0 h1 = bind_got r1 (λ x1. r2 >>= λ x2. r3 >>= λ x3. Give (to x1 x2 x3)) b0 x1 b1 h0 ∙ stop2_1 r2 r3 (to x1) b1 left h1

stop3_3 : {A B C Z : Type 0} → (r1 : Reader A) (r2 : Reader B) (r3 : Reader C) (to : A → B → C → Z) (b0 b1 b2 : List ℕ) (x1 : A) (x2 : B) (left : ℕ) → read r1 b0 ≡ Got x1 b1 → read r2 b1 ≡ Got x2 b2 → read r3 b2 ≡ Stop left → read (r1 >>= λ x1. r2 >>= λ x2. r3 >>= λ x3. Give (to x1 x2 x3)) b0 ≡ Stop left
stop3_3 r1 r2 r3 to b0 b1 b2 x1 x2 left h0 h1 h2 = bind_got r1 (λ x1. r2 >>= λ x2. r3 >>= λ x3. Give (to x1 x2 x3)) b0 x1 b1 h0 ∙ stop2_2 r2 r3 (to x1) b1 b2 x2 left h1 h2

got4 : {A B C D Z : Type 0} → (r1 : Reader A) (r2 : Reader B) (r3 : Reader C) (r4 : Reader D) (to : A → B → C → D → Z) (b0 b1 b2 b3 b4 : List ℕ) (x1 : A) (x2 : B) (x3 : C) (x4 : D) → read r1 b0 ≡ Got x1 b1 → read r2 b1 ≡ Got x2 b2 → read r3 b2 ≡ Got x3 b3 → read r4 b3 ≡ Got x4 b4 → read (r1 >>= λ x1. r2 >>= λ x2. r3 >>= λ x3. r4 >>= λ x4. Give (to x1 x2 x3 x4)) b0 ≡ Got (to x1 x2 x3 x4) b4
got4 r1 r2 r3 r4 to b0 b1 b2 b3 b4 x1 x2 x3 x4 h0 h1 h2 h3 = bind_got r1 (λ x1. r2 >>= λ x2. r3 >>= λ x3. r4 >>= λ x4. Give (to x1 x2 x3 x4)) b0 x1 b1 h0 ∙ got3 r2 r3 r4 (to x1) b1 b2 b3 b4 x2 x3 x4 h1 h2 h3

stop4_1 : {A B C D Z : Type 0} → (r1 : Reader A) (r2 : Reader B) (r3 : Reader C) (r4 : Reader D) (to : A → B → C → D → Z) (b0 : List ℕ) (left : ℕ) → read r1 b0 ≡ Stop left → read (r1 >>= λ x1. r2 >>= λ x2. r3 >>= λ x3. r4 >>= λ x4. Give (to x1 x2 x3 x4)) b0 ≡ Stop left
stop4_1 r1 r2 r3 r4 to b0 left h0 = bind_stop r1 (λ x1. r2 >>= λ x2. r3 >>= λ x3. r4 >>= λ x4. Give (to x1 x2 x3 x4)) b0 left h0

stop4_2 : {A B C D Z : Type 0} → (r1 : Reader A) (r2 : Reader B) (r3 : Reader C) (r4 : Reader D) (to : A → B → C → D → Z) (b0 b1 : List ℕ) (x1 : A) (left : ℕ) → read r1 b0 ≡ Got x1 b1 → read r2 b1 ≡ Stop left → read (r1 >>= λ x1. r2 >>= λ x2. r3 >>= λ x3. r4 >>= λ x4. Give (to x1 x2 x3 x4)) b0 ≡ Stop left
stop4_2 r1 r2 r3 r4 to b0 b1 x1 left h0 h1 = bind_got r1 (λ x1. r2 >>= λ x2. r3 >>= λ x3. r4 >>= λ x4. Give (to x1 x2 x3 x4)) b0 x1 b1 h0 ∙ stop3_1 r2 r3 r4 (to x1) b1 left h1

stop4_3 : {A B C D Z : Type 0} → (r1 : Reader A) (r2 : Reader B) (r3 : Reader C) (r4 : Reader D) (to : A → B → C → D → Z) (b0 b1 b2 : List ℕ) (x1 : A) (x2 : B) (left : ℕ) → read r1 b0 ≡ Got x1 b1 → read r2 b1 ≡ Got x2 b2 → read r3 b2 ≡ Stop left → read (r1 >>= λ x1. r2 >>= λ x2. r3 >>= λ x3. r4 >>= λ x4. Give (to x1 x2 x3 x4)) b0 ≡ Stop left
stop4_3 r1 r2 r3 r4 to b0 b1 b2 x1 x2 left h0 h1 h2 = bind_got r1 (λ x1. r2 >>= λ x2. r3 >>= λ x3. r4 >>= λ x4. Give (to x1 x2 x3 x4)) b0 x1 b1 h0 ∙ stop3_2 r2 r3 r4 (to x1) b1 b2 x2 left h1 h2

stop4_4 : {A B C D Z : Type 0} → (r1 : Reader A) (r2 : Reader B) (r3 : Reader C) (r4 : Reader D) (to : A → B → C → D → Z) (b0 b1 b2 b3 : List ℕ) (x1 : A) (x2 : B) (x3 : C) (left : ℕ) → read r1 b0 ≡ Got x1 b1 → read r2 b1 ≡ Got x2 b2 → read r3 b2 ≡ Got x3 b3 → read r4 b3 ≡ Stop left → read (r1 >>= λ x1. r2 >>= λ x2. r3 >>= λ x3. r4 >>= λ x4. Give (to x1 x2 x3 x4)) b0 ≡ Stop left
stop4_4 r1 r2 r3 r4 to b0 b1 b2 b3 x1 x2 x3 left h0 h1 h2 h3 = bind_got r1 (λ x1. r2 >>= λ x2. r3 >>= λ x3. r4 >>= λ x4. Give (to x1 x2 x3 x4)) b0 x1 b1 h0 ∙ stop3_3 r2 r3 r4 (to x1) b1 b2 b3 x2 x3 left h1 h2 h3

got5 : {A B C D E Z : Type 0} → (r1 : Reader A) (r2 : Reader B) (r3 : Reader C) (r4 : Reader D) (r5 : Reader E) (to : A → B → C → D → E → Z) (b0 b1 b2 b3 b4 b5 : List ℕ) (x1 : A) (x2 : B) (x3 : C) (x4 : D) (x5 : E) → read r1 b0 ≡ Got x1 b1 → read r2 b1 ≡ Got x2 b2 → read r3 b2 ≡ Got x3 b3 → read r4 b3 ≡ Got x4 b4 → read r5 b4 ≡ Got x5 b5 → read (r1 >>= λ x1. r2 >>= λ x2. r3 >>= λ x3. r4 >>= λ x4. r5 >>= λ x5. Give (to x1 x2 x3 x4 x5)) b0 ≡ Got (to x1 x2 x3 x4 x5) b5
got5 r1 r2 r3 r4 r5 to b0 b1 b2 b3 b4 b5 x1 x2 x3 x4 x5 h0 h1 h2 h3 h4 = bind_got r1 (λ x1. r2 >>= λ x2. r3 >>= λ x3. r4 >>= λ x4. r5 >>= λ x5. Give (to x1 x2 x3 x4 x5)) b0 x1 b1 h0 ∙ got4 r2 r3 r4 r5 (to x1) b1 b2 b3 b4 b5 x2 x3 x4 x5 h1 h2 h3 h4

stop5_1 : {A B C D E Z : Type 0} → (r1 : Reader A) (r2 : Reader B) (r3 : Reader C) (r4 : Reader D) (r5 : Reader E) (to : A → B → C → D → E → Z) (b0 : List ℕ) (left : ℕ) → read r1 b0 ≡ Stop left → read (r1 >>= λ x1. r2 >>= λ x2. r3 >>= λ x3. r4 >>= λ x4. r5 >>= λ x5. Give (to x1 x2 x3 x4 x5)) b0 ≡ Stop left
stop5_1 r1 r2 r3 r4 r5 to b0 left h0 = bind_stop r1 (λ x1. r2 >>= λ x2. r3 >>= λ x3. r4 >>= λ x4. r5 >>= λ x5. Give (to x1 x2 x3 x4 x5)) b0 left h0

stop5_2 : {A B C D E Z : Type 0} → (r1 : Reader A) (r2 : Reader B) (r3 : Reader C) (r4 : Reader D) (r5 : Reader E) (to : A → B → C → D → E → Z) (b0 b1 : List ℕ) (x1 : A) (left : ℕ) → read r1 b0 ≡ Got x1 b1 → read r2 b1 ≡ Stop left → read (r1 >>= λ x1. r2 >>= λ x2. r3 >>= λ x3. r4 >>= λ x4. r5 >>= λ x5. Give (to x1 x2 x3 x4 x5)) b0 ≡ Stop left
stop5_2 r1 r2 r3 r4 r5 to b0 b1 x1 left h0 h1 = bind_got r1 (λ x1. r2 >>= λ x2. r3 >>= λ x3. r4 >>= λ x4. r5 >>= λ x5. Give (to x1 x2 x3 x4 x5)) b0 x1 b1 h0 ∙ stop4_1 r2 r3 r4 r5 (to x1) b1 left h1

stop5_3 : {A B C D E Z : Type 0} → (r1 : Reader A) (r2 : Reader B) (r3 : Reader C) (r4 : Reader D) (r5 : Reader E) (to : A → B → C → D → E → Z) (b0 b1 b2 : List ℕ) (x1 : A) (x2 : B) (left : ℕ) → read r1 b0 ≡ Got x1 b1 → read r2 b1 ≡ Got x2 b2 → read r3 b2 ≡ Stop left → read (r1 >>= λ x1. r2 >>= λ x2. r3 >>= λ x3. r4 >>= λ x4. r5 >>= λ x5. Give (to x1 x2 x3 x4 x5)) b0 ≡ Stop left
stop5_3 r1 r2 r3 r4 r5 to b0 b1 b2 x1 x2 left h0 h1 h2 = bind_got r1 (λ x1. r2 >>= λ x2. r3 >>= λ x3. r4 >>= λ x4. r5 >>= λ x5. Give (to x1 x2 x3 x4 x5)) b0 x1 b1 h0 ∙ stop4_2 r2 r3 r4 r5 (to x1) b1 b2 x2 left h1 h2

stop5_4 : {A B C D E Z : Type 0} → (r1 : Reader A) (r2 : Reader B) (r3 : Reader C) (r4 : Reader D) (r5 : Reader E) (to : A → B → C → D → E → Z) (b0 b1 b2 b3 : List ℕ) (x1 : A) (x2 : B) (x3 : C) (left : ℕ) → read r1 b0 ≡ Got x1 b1 → read r2 b1 ≡ Got x2 b2 → read r3 b2 ≡ Got x3 b3 → read r4 b3 ≡ Stop left → read (r1 >>= λ x1. r2 >>= λ x2. r3 >>= λ x3. r4 >>= λ x4. r5 >>= λ x5. Give (to x1 x2 x3 x4 x5)) b0 ≡ Stop left
stop5_4 r1 r2 r3 r4 r5 to b0 b1 b2 b3 x1 x2 x3 left h0 h1 h2 h3 = bind_got r1 (λ x1. r2 >>= λ x2. r3 >>= λ x3. r4 >>= λ x4. r5 >>= λ x5. Give (to x1 x2 x3 x4 x5)) b0 x1 b1 h0 ∙ stop4_3 r2 r3 r4 r5 (to x1) b1 b2 b3 x2 x3 left h1 h2 h3

stop5_5 : {A B C D E Z : Type 0} → (r1 : Reader A) (r2 : Reader B) (r3 : Reader C) (r4 : Reader D) (r5 : Reader E) (to : A → B → C → D → E → Z) (b0 b1 b2 b3 b4 : List ℕ) (x1 : A) (x2 : B) (x3 : C) (x4 : D) (left : ℕ) → read r1 b0 ≡ Got x1 b1 → read r2 b1 ≡ Got x2 b2 → read r3 b2 ≡ Got x3 b3 → read r4 b3 ≡ Got x4 b4 → read r5 b4 ≡ Stop left → read (r1 >>= λ x1. r2 >>= λ x2. r3 >>= λ x3. r4 >>= λ x4. r5 >>= λ x5. Give (to x1 x2 x3 x4 x5)) b0 ≡ Stop left
stop5_5 r1 r2 r3 r4 r5 to b0 b1 b2 b3 b4 x1 x2 x3 x4 left h0 h1 h2 h3 h4 = bind_got r1 (λ x1. r2 >>= λ x2. r3 >>= λ x3. r4 >>= λ x4. r5 >>= λ x5. Give (to x1 x2 x3 x4 x5)) b0 x1 b1 h0 ∙ stop4_4 r2 r3 r4 r5 (to x1) b1 b2 b3 b4 x2 x3 x4 left h1 h2 h3 h4

got6 : {A B C D E F Z : Type 0} → (r1 : Reader A) (r2 : Reader B) (r3 : Reader C) (r4 : Reader D) (r5 : Reader E) (r6 : Reader F) (to : A → B → C → D → E → F → Z) (b0 b1 b2 b3 b4 b5 b6 : List ℕ) (x1 : A) (x2 : B) (x3 : C) (x4 : D) (x5 : E) (x6 : F) → read r1 b0 ≡ Got x1 b1 → read r2 b1 ≡ Got x2 b2 → read r3 b2 ≡ Got x3 b3 → read r4 b3 ≡ Got x4 b4 → read r5 b4 ≡ Got x5 b5 → read r6 b5 ≡ Got x6 b6 → read (r1 >>= λ x1. r2 >>= λ x2. r3 >>= λ x3. r4 >>= λ x4. r5 >>= λ x5. r6 >>= λ x6. Give (to x1 x2 x3 x4 x5 x6)) b0 ≡ Got (to x1 x2 x3 x4 x5 x6) b6
got6 r1 r2 r3 r4 r5 r6 to b0 b1 b2 b3 b4 b5 b6 x1 x2 x3 x4 x5 x6 h0 h1 h2 h3 h4 h5 = bind_got r1 (λ x1. r2 >>= λ x2. r3 >>= λ x3. r4 >>= λ x4. r5 >>= λ x5. r6 >>= λ x6. Give (to x1 x2 x3 x4 x5 x6)) b0 x1 b1 h0 ∙ got5 r2 r3 r4 r5 r6 (to x1) b1 b2 b3 b4 b5 b6 x2 x3 x4 x5 x6 h1 h2 h3 h4 h5

stop6_1 : {A B C D E F Z : Type 0} → (r1 : Reader A) (r2 : Reader B) (r3 : Reader C) (r4 : Reader D) (r5 : Reader E) (r6 : Reader F) (to : A → B → C → D → E → F → Z) (b0 : List ℕ) (left : ℕ) → read r1 b0 ≡ Stop left → read (r1 >>= λ x1. r2 >>= λ x2. r3 >>= λ x3. r4 >>= λ x4. r5 >>= λ x5. r6 >>= λ x6. Give (to x1 x2 x3 x4 x5 x6)) b0 ≡ Stop left
stop6_1 r1 r2 r3 r4 r5 r6 to b0 left h0 = bind_stop r1 (λ x1. r2 >>= λ x2. r3 >>= λ x3. r4 >>= λ x4. r5 >>= λ x5. r6 >>= λ x6. Give (to x1 x2 x3 x4 x5 x6)) b0 left h0

stop6_2 : {A B C D E F Z : Type 0} → (r1 : Reader A) (r2 : Reader B) (r3 : Reader C) (r4 : Reader D) (r5 : Reader E) (r6 : Reader F) (to : A → B → C → D → E → F → Z) (b0 b1 : List ℕ) (x1 : A) (left : ℕ) → read r1 b0 ≡ Got x1 b1 → read r2 b1 ≡ Stop left → read (r1 >>= λ x1. r2 >>= λ x2. r3 >>= λ x3. r4 >>= λ x4. r5 >>= λ x5. r6 >>= λ x6. Give (to x1 x2 x3 x4 x5 x6)) b0 ≡ Stop left
stop6_2 r1 r2 r3 r4 r5 r6 to b0 b1 x1 left h0 h1 = bind_got r1 (λ x1. r2 >>= λ x2. r3 >>= λ x3. r4 >>= λ x4. r5 >>= λ x5. r6 >>= λ x6. Give (to x1 x2 x3 x4 x5 x6)) b0 x1 b1 h0 ∙ stop5_1 r2 r3 r4 r5 r6 (to x1) b1 left h1

stop6_3 : {A B C D E F Z : Type 0} → (r1 : Reader A) (r2 : Reader B) (r3 : Reader C) (r4 : Reader D) (r5 : Reader E) (r6 : Reader F) (to : A → B → C → D → E → F → Z) (b0 b1 b2 : List ℕ) (x1 : A) (x2 : B) (left : ℕ) → read r1 b0 ≡ Got x1 b1 → read r2 b1 ≡ Got x2 b2 → read r3 b2 ≡ Stop left → read (r1 >>= λ x1. r2 >>= λ x2. r3 >>= λ x3. r4 >>= λ x4. r5 >>= λ x5. r6 >>= λ x6. Give (to x1 x2 x3 x4 x5 x6)) b0 ≡ Stop left
stop6_3 r1 r2 r3 r4 r5 r6 to b0 b1 b2 x1 x2 left h0 h1 h2 = bind_got r1 (λ x1. r2 >>= λ x2. r3 >>= λ x3. r4 >>= λ x4. r5 >>= λ x5. r6 >>= λ x6. Give (to x1 x2 x3 x4 x5 x6)) b0 x1 b1 h0 ∙ stop5_2 r2 r3 r4 r5 r6 (to x1) b1 b2 x2 left h1 h2

stop6_4 : {A B C D E F Z : Type 0} → (r1 : Reader A) (r2 : Reader B) (r3 : Reader C) (r4 : Reader D) (r5 : Reader E) (r6 : Reader F) (to : A → B → C → D → E → F → Z) (b0 b1 b2 b3 : List ℕ) (x1 : A) (x2 : B) (x3 : C) (left : ℕ) → read r1 b0 ≡ Got x1 b1 → read r2 b1 ≡ Got x2 b2 → read r3 b2 ≡ Got x3 b3 → read r4 b3 ≡ Stop left → read (r1 >>= λ x1. r2 >>= λ x2. r3 >>= λ x3. r4 >>= λ x4. r5 >>= λ x5. r6 >>= λ x6. Give (to x1 x2 x3 x4 x5 x6)) b0 ≡ Stop left
stop6_4 r1 r2 r3 r4 r5 r6 to b0 b1 b2 b3 x1 x2 x3 left h0 h1 h2 h3 = bind_got r1 (λ x1. r2 >>= λ x2. r3 >>= λ x3. r4 >>= λ x4. r5 >>= λ x5. r6 >>= λ x6. Give (to x1 x2 x3 x4 x5 x6)) b0 x1 b1 h0 ∙ stop5_3 r2 r3 r4 r5 r6 (to x1) b1 b2 b3 x2 x3 left h1 h2 h3

stop6_5 : {A B C D E F Z : Type 0} → (r1 : Reader A) (r2 : Reader B) (r3 : Reader C) (r4 : Reader D) (r5 : Reader E) (r6 : Reader F) (to : A → B → C → D → E → F → Z) (b0 b1 b2 b3 b4 : List ℕ) (x1 : A) (x2 : B) (x3 : C) (x4 : D) (left : ℕ) → read r1 b0 ≡ Got x1 b1 → read r2 b1 ≡ Got x2 b2 → read r3 b2 ≡ Got x3 b3 → read r4 b3 ≡ Got x4 b4 → read r5 b4 ≡ Stop left → read (r1 >>= λ x1. r2 >>= λ x2. r3 >>= λ x3. r4 >>= λ x4. r5 >>= λ x5. r6 >>= λ x6. Give (to x1 x2 x3 x4 x5 x6)) b0 ≡ Stop left
stop6_5 r1 r2 r3 r4 r5 r6 to b0 b1 b2 b3 b4 x1 x2 x3 x4 left h0 h1 h2 h3 h4 = bind_got r1 (λ x1. r2 >>= λ x2. r3 >>= λ x3. r4 >>= λ x4. r5 >>= λ x5. r6 >>= λ x6. Give (to x1 x2 x3 x4 x5 x6)) b0 x1 b1 h0 ∙ stop5_4 r2 r3 r4 r5 r6 (to x1) b1 b2 b3 b4 x2 x3 x4 left h1 h2 h3 h4

stop6_6 : {A B C D E F Z : Type 0} → (r1 : Reader A) (r2 : Reader B) (r3 : Reader C) (r4 : Reader D) (r5 : Reader E) (r6 : Reader F) (to : A → B → C → D → E → F → Z) (b0 b1 b2 b3 b4 b5 : List ℕ) (x1 : A) (x2 : B) (x3 : C) (x4 : D) (x5 : E) (left : ℕ) → read r1 b0 ≡ Got x1 b1 → read r2 b1 ≡ Got x2 b2 → read r3 b2 ≡ Got x3 b3 → read r4 b3 ≡ Got x4 b4 → read r5 b4 ≡ Got x5 b5 → read r6 b5 ≡ Stop left → read (r1 >>= λ x1. r2 >>= λ x2. r3 >>= λ x3. r4 >>= λ x4. r5 >>= λ x5. r6 >>= λ x6. Give (to x1 x2 x3 x4 x5 x6)) b0 ≡ Stop left
stop6_6 r1 r2 r3 r4 r5 r6 to b0 b1 b2 b3 b4 b5 x1 x2 x3 x4 x5 left h0 h1 h2 h3 h4 h5 = bind_got r1 (λ x1. r2 >>= λ x2. r3 >>= λ x3. r4 >>= λ x4. r5 >>= λ x5. r6 >>= λ x6. Give (to x1 x2 x3 x4 x5 x6)) b0 x1 b1 h0 ∙ stop5_5 r2 r3 r4 r5 r6 (to x1) b1 b2 b3 b4 b5 x2 x3 x4 x5 left h1 h2 h3 h4 h5

got7 : {A B C D E F G Z : Type 0} → (r1 : Reader A) (r2 : Reader B) (r3 : Reader C) (r4 : Reader D) (r5 : Reader E) (r6 : Reader F) (r7 : Reader G) (to : A → B → C → D → E → F → G → Z) (b0 b1 b2 b3 b4 b5 b6 b7 : List ℕ) (x1 : A) (x2 : B) (x3 : C) (x4 : D) (x5 : E) (x6 : F) (x7 : G) → read r1 b0 ≡ Got x1 b1 → read r2 b1 ≡ Got x2 b2 → read r3 b2 ≡ Got x3 b3 → read r4 b3 ≡ Got x4 b4 → read r5 b4 ≡ Got x5 b5 → read r6 b5 ≡ Got x6 b6 → read r7 b6 ≡ Got x7 b7 → read (r1 >>= λ x1. r2 >>= λ x2. r3 >>= λ x3. r4 >>= λ x4. r5 >>= λ x5. r6 >>= λ x6. r7 >>= λ x7. Give (to x1 x2 x3 x4 x5 x6 x7)) b0 ≡ Got (to x1 x2 x3 x4 x5 x6 x7) b7
got7 r1 r2 r3 r4 r5 r6 r7 to b0 b1 b2 b3 b4 b5 b6 b7 x1 x2 x3 x4 x5 x6 x7 h0 h1 h2 h3 h4 h5 h6 = bind_got r1 (λ x1. r2 >>= λ x2. r3 >>= λ x3. r4 >>= λ x4. r5 >>= λ x5. r6 >>= λ x6. r7 >>= λ x7. Give (to x1 x2 x3 x4 x5 x6 x7)) b0 x1 b1 h0 ∙ got6 r2 r3 r4 r5 r6 r7 (to x1) b1 b2 b3 b4 b5 b6 b7 x2 x3 x4 x5 x6 x7 h1 h2 h3 h4 h5 h6

stop7_1 : {A B C D E F G Z : Type 0} → (r1 : Reader A) (r2 : Reader B) (r3 : Reader C) (r4 : Reader D) (r5 : Reader E) (r6 : Reader F) (r7 : Reader G) (to : A → B → C → D → E → F → G → Z) (b0 : List ℕ) (left : ℕ) → read r1 b0 ≡ Stop left → read (r1 >>= λ x1. r2 >>= λ x2. r3 >>= λ x3. r4 >>= λ x4. r5 >>= λ x5. r6 >>= λ x6. r7 >>= λ x7. Give (to x1 x2 x3 x4 x5 x6 x7)) b0 ≡ Stop left
stop7_1 r1 r2 r3 r4 r5 r6 r7 to b0 left h0 = bind_stop r1 (λ x1. r2 >>= λ x2. r3 >>= λ x3. r4 >>= λ x4. r5 >>= λ x5. r6 >>= λ x6. r7 >>= λ x7. Give (to x1 x2 x3 x4 x5 x6 x7)) b0 left h0

stop7_2 : {A B C D E F G Z : Type 0} → (r1 : Reader A) (r2 : Reader B) (r3 : Reader C) (r4 : Reader D) (r5 : Reader E) (r6 : Reader F) (r7 : Reader G) (to : A → B → C → D → E → F → G → Z) (b0 b1 : List ℕ) (x1 : A) (left : ℕ) → read r1 b0 ≡ Got x1 b1 → read r2 b1 ≡ Stop left → read (r1 >>= λ x1. r2 >>= λ x2. r3 >>= λ x3. r4 >>= λ x4. r5 >>= λ x5. r6 >>= λ x6. r7 >>= λ x7. Give (to x1 x2 x3 x4 x5 x6 x7)) b0 ≡ Stop left
stop7_2 r1 r2 r3 r4 r5 r6 r7 to b0 b1 x1 left h0 h1 = bind_got r1 (λ x1. r2 >>= λ x2. r3 >>= λ x3. r4 >>= λ x4. r5 >>= λ x5. r6 >>= λ x6. r7 >>= λ x7. Give (to x1 x2 x3 x4 x5 x6 x7)) b0 x1 b1 h0 ∙ stop6_1 r2 r3 r4 r5 r6 r7 (to x1) b1 left h1

stop7_3 : {A B C D E F G Z : Type 0} → (r1 : Reader A) (r2 : Reader B) (r3 : Reader C) (r4 : Reader D) (r5 : Reader E) (r6 : Reader F) (r7 : Reader G) (to : A → B → C → D → E → F → G → Z) (b0 b1 b2 : List ℕ) (x1 : A) (x2 : B) (left : ℕ) → read r1 b0 ≡ Got x1 b1 → read r2 b1 ≡ Got x2 b2 → read r3 b2 ≡ Stop left → read (r1 >>= λ x1. r2 >>= λ x2. r3 >>= λ x3. r4 >>= λ x4. r5 >>= λ x5. r6 >>= λ x6. r7 >>= λ x7. Give (to x1 x2 x3 x4 x5 x6 x7)) b0 ≡ Stop left
stop7_3 r1 r2 r3 r4 r5 r6 r7 to b0 b1 b2 x1 x2 left h0 h1 h2 = bind_got r1 (λ x1. r2 >>= λ x2. r3 >>= λ x3. r4 >>= λ x4. r5 >>= λ x5. r6 >>= λ x6. r7 >>= λ x7. Give (to x1 x2 x3 x4 x5 x6 x7)) b0 x1 b1 h0 ∙ stop6_2 r2 r3 r4 r5 r6 r7 (to x1) b1 b2 x2 left h1 h2

stop7_4 : {A B C D E F G Z : Type 0} → (r1 : Reader A) (r2 : Reader B) (r3 : Reader C) (r4 : Reader D) (r5 : Reader E) (r6 : Reader F) (r7 : Reader G) (to : A → B → C → D → E → F → G → Z) (b0 b1 b2 b3 : List ℕ) (x1 : A) (x2 : B) (x3 : C) (left : ℕ) → read r1 b0 ≡ Got x1 b1 → read r2 b1 ≡ Got x2 b2 → read r3 b2 ≡ Got x3 b3 → read r4 b3 ≡ Stop left → read (r1 >>= λ x1. r2 >>= λ x2. r3 >>= λ x3. r4 >>= λ x4. r5 >>= λ x5. r6 >>= λ x6. r7 >>= λ x7. Give (to x1 x2 x3 x4 x5 x6 x7)) b0 ≡ Stop left
stop7_4 r1 r2 r3 r4 r5 r6 r7 to b0 b1 b2 b3 x1 x2 x3 left h0 h1 h2 h3 = bind_got r1 (λ x1. r2 >>= λ x2. r3 >>= λ x3. r4 >>= λ x4. r5 >>= λ x5. r6 >>= λ x6. r7 >>= λ x7. Give (to x1 x2 x3 x4 x5 x6 x7)) b0 x1 b1 h0 ∙ stop6_3 r2 r3 r4 r5 r6 r7 (to x1) b1 b2 b3 x2 x3 left h1 h2 h3

stop7_5 : {A B C D E F G Z : Type 0} → (r1 : Reader A) (r2 : Reader B) (r3 : Reader C) (r4 : Reader D) (r5 : Reader E) (r6 : Reader F) (r7 : Reader G) (to : A → B → C → D → E → F → G → Z) (b0 b1 b2 b3 b4 : List ℕ) (x1 : A) (x2 : B) (x3 : C) (x4 : D) (left : ℕ) → read r1 b0 ≡ Got x1 b1 → read r2 b1 ≡ Got x2 b2 → read r3 b2 ≡ Got x3 b3 → read r4 b3 ≡ Got x4 b4 → read r5 b4 ≡ Stop left → read (r1 >>= λ x1. r2 >>= λ x2. r3 >>= λ x3. r4 >>= λ x4. r5 >>= λ x5. r6 >>= λ x6. r7 >>= λ x7. Give (to x1 x2 x3 x4 x5 x6 x7)) b0 ≡ Stop left
stop7_5 r1 r2 r3 r4 r5 r6 r7 to b0 b1 b2 b3 b4 x1 x2 x3 x4 left h0 h1 h2 h3 h4 = bind_got r1 (λ x1. r2 >>= λ x2. r3 >>= λ x3. r4 >>= λ x4. r5 >>= λ x5. r6 >>= λ x6. r7 >>= λ x7. Give (to x1 x2 x3 x4 x5 x6 x7)) b0 x1 b1 h0 ∙ stop6_4 r2 r3 r4 r5 r6 r7 (to x1) b1 b2 b3 b4 x2 x3 x4 left h1 h2 h3 h4

stop7_6 : {A B C D E F G Z : Type 0} → (r1 : Reader A) (r2 : Reader B) (r3 : Reader C) (r4 : Reader D) (r5 : Reader E) (r6 : Reader F) (r7 : Reader G) (to : A → B → C → D → E → F → G → Z) (b0 b1 b2 b3 b4 b5 : List ℕ) (x1 : A) (x2 : B) (x3 : C) (x4 : D) (x5 : E) (left : ℕ) → read r1 b0 ≡ Got x1 b1 → read r2 b1 ≡ Got x2 b2 → read r3 b2 ≡ Got x3 b3 → read r4 b3 ≡ Got x4 b4 → read r5 b4 ≡ Got x5 b5 → read r6 b5 ≡ Stop left → read (r1 >>= λ x1. r2 >>= λ x2. r3 >>= λ x3. r4 >>= λ x4. r5 >>= λ x5. r6 >>= λ x6. r7 >>= λ x7. Give (to x1 x2 x3 x4 x5 x6 x7)) b0 ≡ Stop left
stop7_6 r1 r2 r3 r4 r5 r6 r7 to b0 b1 b2 b3 b4 b5 x1 x2 x3 x4 x5 left h0 h1 h2 h3 h4 h5 = bind_got r1 (λ x1. r2 >>= λ x2. r3 >>= λ x3. r4 >>= λ x4. r5 >>= λ x5. r6 >>= λ x6. r7 >>= λ x7. Give (to x1 x2 x3 x4 x5 x6 x7)) b0 x1 b1 h0 ∙ stop6_5 r2 r3 r4 r5 r6 r7 (to x1) b1 b2 b3 b4 b5 x2 x3 x4 x5 left h1 h2 h3 h4 h5

stop7_7 : {A B C D E F G Z : Type 0} → (r1 : Reader A) (r2 : Reader B) (r3 : Reader C) (r4 : Reader D) (r5 : Reader E) (r6 : Reader F) (r7 : Reader G) (to : A → B → C → D → E → F → G → Z) (b0 b1 b2 b3 b4 b5 b6 : List ℕ) (x1 : A) (x2 : B) (x3 : C) (x4 : D) (x5 : E) (x6 : F) (left : ℕ) → read r1 b0 ≡ Got x1 b1 → read r2 b1 ≡ Got x2 b2 → read r3 b2 ≡ Got x3 b3 → read r4 b3 ≡ Got x4 b4 → read r5 b4 ≡ Got x5 b5 → read r6 b5 ≡ Got x6 b6 → read r7 b6 ≡ Stop left → read (r1 >>= λ x1. r2 >>= λ x2. r3 >>= λ x3. r4 >>= λ x4. r5 >>= λ x5. r6 >>= λ x6. r7 >>= λ x7. Give (to x1 x2 x3 x4 x5 x6 x7)) b0 ≡ Stop left
stop7_7 r1 r2 r3 r4 r5 r6 r7 to b0 b1 b2 b3 b4 b5 b6 x1 x2 x3 x4 x5 x6 left h0 h1 h2 h3 h4 h5 h6 = bind_got r1 (λ x1. r2 >>= λ x2. r3 >>= λ x3. r4 >>= λ x4. r5 >>= λ x5. r6 >>= λ x6. r7 >>= λ x7. Give (to x1 x2 x3 x4 x5 x6 x7)) b0 x1 b1 h0 ∙ stop6_6 r2 r3 r4 r5 r6 r7 (to x1) b1 b2 b3 b4 b5 b6 x2 x3 x4 x5 x6 left h1 h2 h3 h4 h5 h6

got8 : {A B C D E F G H Z : Type 0} → (r1 : Reader A) (r2 : Reader B) (r3 : Reader C) (r4 : Reader D) (r5 : Reader E) (r6 : Reader F) (r7 : Reader G) (r8 : Reader H) (to : A → B → C → D → E → F → G → H → Z) (b0 b1 b2 b3 b4 b5 b6 b7 b8 : List ℕ) (x1 : A) (x2 : B) (x3 : C) (x4 : D) (x5 : E) (x6 : F) (x7 : G) (x8 : H) → read r1 b0 ≡ Got x1 b1 → read r2 b1 ≡ Got x2 b2 → read r3 b2 ≡ Got x3 b3 → read r4 b3 ≡ Got x4 b4 → read r5 b4 ≡ Got x5 b5 → read r6 b5 ≡ Got x6 b6 → read r7 b6 ≡ Got x7 b7 → read r8 b7 ≡ Got x8 b8 → read (r1 >>= λ x1. r2 >>= λ x2. r3 >>= λ x3. r4 >>= λ x4. r5 >>= λ x5. r6 >>= λ x6. r7 >>= λ x7. r8 >>= λ x8. Give (to x1 x2 x3 x4 x5 x6 x7 x8)) b0 ≡ Got (to x1 x2 x3 x4 x5 x6 x7 x8) b8
got8 r1 r2 r3 r4 r5 r6 r7 r8 to b0 b1 b2 b3 b4 b5 b6 b7 b8 x1 x2 x3 x4 x5 x6 x7 x8 h0 h1 h2 h3 h4 h5 h6 h7 = bind_got r1 (λ x1. r2 >>= λ x2. r3 >>= λ x3. r4 >>= λ x4. r5 >>= λ x5. r6 >>= λ x6. r7 >>= λ x7. r8 >>= λ x8. Give (to x1 x2 x3 x4 x5 x6 x7 x8)) b0 x1 b1 h0 ∙ got7 r2 r3 r4 r5 r6 r7 r8 (to x1) b1 b2 b3 b4 b5 b6 b7 b8 x2 x3 x4 x5 x6 x7 x8 h1 h2 h3 h4 h5 h6 h7

stop8_1 : {A B C D E F G H Z : Type 0} → (r1 : Reader A) (r2 : Reader B) (r3 : Reader C) (r4 : Reader D) (r5 : Reader E) (r6 : Reader F) (r7 : Reader G) (r8 : Reader H) (to : A → B → C → D → E → F → G → H → Z) (b0 : List ℕ) (left : ℕ) → read r1 b0 ≡ Stop left → read (r1 >>= λ x1. r2 >>= λ x2. r3 >>= λ x3. r4 >>= λ x4. r5 >>= λ x5. r6 >>= λ x6. r7 >>= λ x7. r8 >>= λ x8. Give (to x1 x2 x3 x4 x5 x6 x7 x8)) b0 ≡ Stop left
stop8_1 r1 r2 r3 r4 r5 r6 r7 r8 to b0 left h0 = bind_stop r1 (λ x1. r2 >>= λ x2. r3 >>= λ x3. r4 >>= λ x4. r5 >>= λ x5. r6 >>= λ x6. r7 >>= λ x7. r8 >>= λ x8. Give (to x1 x2 x3 x4 x5 x6 x7 x8)) b0 left h0

stop8_2 : {A B C D E F G H Z : Type 0} → (r1 : Reader A) (r2 : Reader B) (r3 : Reader C) (r4 : Reader D) (r5 : Reader E) (r6 : Reader F) (r7 : Reader G) (r8 : Reader H) (to : A → B → C → D → E → F → G → H → Z) (b0 b1 : List ℕ) (x1 : A) (left : ℕ) → read r1 b0 ≡ Got x1 b1 → read r2 b1 ≡ Stop left → read (r1 >>= λ x1. r2 >>= λ x2. r3 >>= λ x3. r4 >>= λ x4. r5 >>= λ x5. r6 >>= λ x6. r7 >>= λ x7. r8 >>= λ x8. Give (to x1 x2 x3 x4 x5 x6 x7 x8)) b0 ≡ Stop left
stop8_2 r1 r2 r3 r4 r5 r6 r7 r8 to b0 b1 x1 left h0 h1 = bind_got r1 (λ x1. r2 >>= λ x2. r3 >>= λ x3. r4 >>= λ x4. r5 >>= λ x5. r6 >>= λ x6. r7 >>= λ x7. r8 >>= λ x8. Give (to x1 x2 x3 x4 x5 x6 x7 x8)) b0 x1 b1 h0 ∙ stop7_1 r2 r3 r4 r5 r6 r7 r8 (to x1) b1 left h1

stop8_3 : {A B C D E F G H Z : Type 0} → (r1 : Reader A) (r2 : Reader B) (r3 : Reader C) (r4 : Reader D) (r5 : Reader E) (r6 : Reader F) (r7 : Reader G) (r8 : Reader H) (to : A → B → C → D → E → F → G → H → Z) (b0 b1 b2 : List ℕ) (x1 : A) (x2 : B) (left : ℕ) → read r1 b0 ≡ Got x1 b1 → read r2 b1 ≡ Got x2 b2 → read r3 b2 ≡ Stop left → read (r1 >>= λ x1. r2 >>= λ x2. r3 >>= λ x3. r4 >>= λ x4. r5 >>= λ x5. r6 >>= λ x6. r7 >>= λ x7. r8 >>= λ x8. Give (to x1 x2 x3 x4 x5 x6 x7 x8)) b0 ≡ Stop left
stop8_3 r1 r2 r3 r4 r5 r6 r7 r8 to b0 b1 b2 x1 x2 left h0 h1 h2 = bind_got r1 (λ x1. r2 >>= λ x2. r3 >>= λ x3. r4 >>= λ x4. r5 >>= λ x5. r6 >>= λ x6. r7 >>= λ x7. r8 >>= λ x8. Give (to x1 x2 x3 x4 x5 x6 x7 x8)) b0 x1 b1 h0 ∙ stop7_2 r2 r3 r4 r5 r6 r7 r8 (to x1) b1 b2 x2 left h1 h2

stop8_4 : {A B C D E F G H Z : Type 0} → (r1 : Reader A) (r2 : Reader B) (r3 : Reader C) (r4 : Reader D) (r5 : Reader E) (r6 : Reader F) (r7 : Reader G) (r8 : Reader H) (to : A → B → C → D → E → F → G → H → Z) (b0 b1 b2 b3 : List ℕ) (x1 : A) (x2 : B) (x3 : C) (left : ℕ) → read r1 b0 ≡ Got x1 b1 → read r2 b1 ≡ Got x2 b2 → read r3 b2 ≡ Got x3 b3 → read r4 b3 ≡ Stop left → read (r1 >>= λ x1. r2 >>= λ x2. r3 >>= λ x3. r4 >>= λ x4. r5 >>= λ x5. r6 >>= λ x6. r7 >>= λ x7. r8 >>= λ x8. Give (to x1 x2 x3 x4 x5 x6 x7 x8)) b0 ≡ Stop left
stop8_4 r1 r2 r3 r4 r5 r6 r7 r8 to b0 b1 b2 b3 x1 x2 x3 left h0 h1 h2 h3 = bind_got r1 (λ x1. r2 >>= λ x2. r3 >>= λ x3. r4 >>= λ x4. r5 >>= λ x5. r6 >>= λ x6. r7 >>= λ x7. r8 >>= λ x8. Give (to x1 x2 x3 x4 x5 x6 x7 x8)) b0 x1 b1 h0 ∙ stop7_3 r2 r3 r4 r5 r6 r7 r8 (to x1) b1 b2 b3 x2 x3 left h1 h2 h3

stop8_5 : {A B C D E F G H Z : Type 0} → (r1 : Reader A) (r2 : Reader B) (r3 : Reader C) (r4 : Reader D) (r5 : Reader E) (r6 : Reader F) (r7 : Reader G) (r8 : Reader H) (to : A → B → C → D → E → F → G → H → Z) (b0 b1 b2 b3 b4 : List ℕ) (x1 : A) (x2 : B) (x3 : C) (x4 : D) (left : ℕ) → read r1 b0 ≡ Got x1 b1 → read r2 b1 ≡ Got x2 b2 → read r3 b2 ≡ Got x3 b3 → read r4 b3 ≡ Got x4 b4 → read r5 b4 ≡ Stop left → read (r1 >>= λ x1. r2 >>= λ x2. r3 >>= λ x3. r4 >>= λ x4. r5 >>= λ x5. r6 >>= λ x6. r7 >>= λ x7. r8 >>= λ x8. Give (to x1 x2 x3 x4 x5 x6 x7 x8)) b0 ≡ Stop left
stop8_5 r1 r2 r3 r4 r5 r6 r7 r8 to b0 b1 b2 b3 b4 x1 x2 x3 x4 left h0 h1 h2 h3 h4 = bind_got r1 (λ x1. r2 >>= λ x2. r3 >>= λ x3. r4 >>= λ x4. r5 >>= λ x5. r6 >>= λ x6. r7 >>= λ x7. r8 >>= λ x8. Give (to x1 x2 x3 x4 x5 x6 x7 x8)) b0 x1 b1 h0 ∙ stop7_4 r2 r3 r4 r5 r6 r7 r8 (to x1) b1 b2 b3 b4 x2 x3 x4 left h1 h2 h3 h4

stop8_6 : {A B C D E F G H Z : Type 0} → (r1 : Reader A) (r2 : Reader B) (r3 : Reader C) (r4 : Reader D) (r5 : Reader E) (r6 : Reader F) (r7 : Reader G) (r8 : Reader H) (to : A → B → C → D → E → F → G → H → Z) (b0 b1 b2 b3 b4 b5 : List ℕ) (x1 : A) (x2 : B) (x3 : C) (x4 : D) (x5 : E) (left : ℕ) → read r1 b0 ≡ Got x1 b1 → read r2 b1 ≡ Got x2 b2 → read r3 b2 ≡ Got x3 b3 → read r4 b3 ≡ Got x4 b4 → read r5 b4 ≡ Got x5 b5 → read r6 b5 ≡ Stop left → read (r1 >>= λ x1. r2 >>= λ x2. r3 >>= λ x3. r4 >>= λ x4. r5 >>= λ x5. r6 >>= λ x6. r7 >>= λ x7. r8 >>= λ x8. Give (to x1 x2 x3 x4 x5 x6 x7 x8)) b0 ≡ Stop left
stop8_6 r1 r2 r3 r4 r5 r6 r7 r8 to b0 b1 b2 b3 b4 b5 x1 x2 x3 x4 x5 left h0 h1 h2 h3 h4 h5 = bind_got r1 (λ x1. r2 >>= λ x2. r3 >>= λ x3. r4 >>= λ x4. r5 >>= λ x5. r6 >>= λ x6. r7 >>= λ x7. r8 >>= λ x8. Give (to x1 x2 x3 x4 x5 x6 x7 x8)) b0 x1 b1 h0 ∙ stop7_5 r2 r3 r4 r5 r6 r7 r8 (to x1) b1 b2 b3 b4 b5 x2 x3 x4 x5 left h1 h2 h3 h4 h5

stop8_7 : {A B C D E F G H Z : Type 0} → (r1 : Reader A) (r2 : Reader B) (r3 : Reader C) (r4 : Reader D) (r5 : Reader E) (r6 : Reader F) (r7 : Reader G) (r8 : Reader H) (to : A → B → C → D → E → F → G → H → Z) (b0 b1 b2 b3 b4 b5 b6 : List ℕ) (x1 : A) (x2 : B) (x3 : C) (x4 : D) (x5 : E) (x6 : F) (left : ℕ) → read r1 b0 ≡ Got x1 b1 → read r2 b1 ≡ Got x2 b2 → read r3 b2 ≡ Got x3 b3 → read r4 b3 ≡ Got x4 b4 → read r5 b4 ≡ Got x5 b5 → read r6 b5 ≡ Got x6 b6 → read r7 b6 ≡ Stop left → read (r1 >>= λ x1. r2 >>= λ x2. r3 >>= λ x3. r4 >>= λ x4. r5 >>= λ x5. r6 >>= λ x6. r7 >>= λ x7. r8 >>= λ x8. Give (to x1 x2 x3 x4 x5 x6 x7 x8)) b0 ≡ Stop left
stop8_7 r1 r2 r3 r4 r5 r6 r7 r8 to b0 b1 b2 b3 b4 b5 b6 x1 x2 x3 x4 x5 x6 left h0 h1 h2 h3 h4 h5 h6 = bind_got r1 (λ x1. r2 >>= λ x2. r3 >>= λ x3. r4 >>= λ x4. r5 >>= λ x5. r6 >>= λ x6. r7 >>= λ x7. r8 >>= λ x8. Give (to x1 x2 x3 x4 x5 x6 x7 x8)) b0 x1 b1 h0 ∙ stop7_6 r2 r3 r4 r5 r6 r7 r8 (to x1) b1 b2 b3 b4 b5 b6 x2 x3 x4 x5 x6 left h1 h2 h3 h4 h5 h6

stop8_8 : {A B C D E F G H Z : Type 0} → (r1 : Reader A) (r2 : Reader B) (r3 : Reader C) (r4 : Reader D) (r5 : Reader E) (r6 : Reader F) (r7 : Reader G) (r8 : Reader H) (to : A → B → C → D → E → F → G → H → Z) (b0 b1 b2 b3 b4 b5 b6 b7 : List ℕ) (x1 : A) (x2 : B) (x3 : C) (x4 : D) (x5 : E) (x6 : F) (x7 : G) (left : ℕ) → read r1 b0 ≡ Got x1 b1 → read r2 b1 ≡ Got x2 b2 → read r3 b2 ≡ Got x3 b3 → read r4 b3 ≡ Got x4 b4 → read r5 b4 ≡ Got x5 b5 → read r6 b5 ≡ Got x6 b6 → read r7 b6 ≡ Got x7 b7 → read r8 b7 ≡ Stop left → read (r1 >>= λ x1. r2 >>= λ x2. r3 >>= λ x3. r4 >>= λ x4. r5 >>= λ x5. r6 >>= λ x6. r7 >>= λ x7. r8 >>= λ x8. Give (to x1 x2 x3 x4 x5 x6 x7 x8)) b0 ≡ Stop left
stop8_8 r1 r2 r3 r4 r5 r6 r7 r8 to b0 b1 b2 b3 b4 b5 b6 b7 x1 x2 x3 x4 x5 x6 x7 left h0 h1 h2 h3 h4 h5 h6 h7 = bind_got r1 (λ x1. r2 >>= λ x2. r3 >>= λ x3. r4 >>= λ x4. r5 >>= λ x5. r6 >>= λ x6. r7 >>= λ x7. r8 >>= λ x8. Give (to x1 x2 x3 x4 x5 x6 x7 x8)) b0 x1 b1 h0 ∙ stop7_7 r2 r3 r4 r5 r6 r7 r8 (to x1) b1 b2 b3 b4 b5 b6 b7 x2 x3 x4 x5 x6 x7 left h1 h2 h3 h4 h5 h6 h7

pub two_got : (b0 b1 b2 : List ℕ) (x1 : ℕ) (x2 : ℕ) → read any b0 ≡ Got x1 b1 → read any b1 ≡ Got x2 b2 → read two_reader b0 ≡ Got (from_be_bytes w16 (x1 ∷ x2 ∷ [])) b2
unfolding two_reader
two_got b0 b1 b2 x1 x2 h0 h1 = got2 any any (λ x1 x2. from_be_bytes w16 (x1 ∷ x2 ∷ [])) b0 b1 b2 x1 x2 h0 h1

pub two_stop1 : (b0 : List ℕ) (left : ℕ) → read any b0 ≡ Stop left → read two_reader b0 ≡ Stop left
unfolding two_reader
two_stop1 b0 left h0 = stop2_1 any any (λ x1 x2. from_be_bytes w16 (x1 ∷ x2 ∷ [])) b0 left h0

pub two_stop2 : (b0 b1 : List ℕ) (x1 : ℕ) (left : ℕ) → read any b0 ≡ Got x1 b1 → read any b1 ≡ Stop left → read two_reader b0 ≡ Stop left
unfolding two_reader
two_stop2 b0 b1 x1 left h0 h1 = stop2_2 any any (λ x1 x2. from_be_bytes w16 (x1 ∷ x2 ∷ [])) b0 b1 x1 left h0 h1

pub four_got : (b0 b1 b2 b3 b4 : List ℕ) (x1 : ℕ) (x2 : ℕ) (x3 : ℕ) (x4 : ℕ) → read any b0 ≡ Got x1 b1 → read any b1 ≡ Got x2 b2 → read any b2 ≡ Got x3 b3 → read any b3 ≡ Got x4 b4 → read four_reader b0 ≡ Got (from_be_bytes w32 (x1 ∷ x2 ∷ x3 ∷ x4 ∷ [])) b4
unfolding four_reader
four_got b0 b1 b2 b3 b4 x1 x2 x3 x4 h0 h1 h2 h3 = got4 any any any any (λ x1 x2 x3 x4. from_be_bytes w32 (x1 ∷ x2 ∷ x3 ∷ x4 ∷ [])) b0 b1 b2 b3 b4 x1 x2 x3 x4 h0 h1 h2 h3

pub four_stop1 : (b0 : List ℕ) (left : ℕ) → read any b0 ≡ Stop left → read four_reader b0 ≡ Stop left
unfolding four_reader
four_stop1 b0 left h0 = stop4_1 any any any any (λ x1 x2 x3 x4. from_be_bytes w32 (x1 ∷ x2 ∷ x3 ∷ x4 ∷ [])) b0 left h0

pub four_stop2 : (b0 b1 : List ℕ) (x1 : ℕ) (left : ℕ) → read any b0 ≡ Got x1 b1 → read any b1 ≡ Stop left → read four_reader b0 ≡ Stop left
unfolding four_reader
four_stop2 b0 b1 x1 left h0 h1 = stop4_2 any any any any (λ x1 x2 x3 x4. from_be_bytes w32 (x1 ∷ x2 ∷ x3 ∷ x4 ∷ [])) b0 b1 x1 left h0 h1

pub four_stop3 : (b0 b1 b2 : List ℕ) (x1 : ℕ) (x2 : ℕ) (left : ℕ) → read any b0 ≡ Got x1 b1 → read any b1 ≡ Got x2 b2 → read any b2 ≡ Stop left → read four_reader b0 ≡ Stop left
unfolding four_reader
four_stop3 b0 b1 b2 x1 x2 left h0 h1 h2 = stop4_3 any any any any (λ x1 x2 x3 x4. from_be_bytes w32 (x1 ∷ x2 ∷ x3 ∷ x4 ∷ [])) b0 b1 b2 x1 x2 left h0 h1 h2

pub four_stop4 : (b0 b1 b2 b3 : List ℕ) (x1 : ℕ) (x2 : ℕ) (x3 : ℕ) (left : ℕ) → read any b0 ≡ Got x1 b1 → read any b1 ≡ Got x2 b2 → read any b2 ≡ Got x3 b3 → read any b3 ≡ Stop left → read four_reader b0 ≡ Stop left
unfolding four_reader
four_stop4 b0 b1 b2 b3 x1 x2 x3 left h0 h1 h2 h3 = stop4_4 any any any any (λ x1 x2 x3 x4. from_be_bytes w32 (x1 ∷ x2 ∷ x3 ∷ x4 ∷ [])) b0 b1 b2 b3 x1 x2 x3 left h0 h1 h2 h3

pub eight_got : (b0 b1 b2 b3 b4 b5 b6 b7 b8 : List ℕ) (x1 : ℕ) (x2 : ℕ) (x3 : ℕ) (x4 : ℕ) (x5 : ℕ) (x6 : ℕ) (x7 : ℕ) (x8 : ℕ) → read any b0 ≡ Got x1 b1 → read any b1 ≡ Got x2 b2 → read any b2 ≡ Got x3 b3 → read any b3 ≡ Got x4 b4 → read any b4 ≡ Got x5 b5 → read any b5 ≡ Got x6 b6 → read any b6 ≡ Got x7 b7 → read any b7 ≡ Got x8 b8 → read eight_reader b0 ≡ Got (cast_signed w64 (from_be_bytes w64 (x1 ∷ x2 ∷ x3 ∷ x4 ∷ x5 ∷ x6 ∷ x7 ∷ x8 ∷ []))) b8
unfolding eight_reader
eight_got b0 b1 b2 b3 b4 b5 b6 b7 b8 x1 x2 x3 x4 x5 x6 x7 x8 h0 h1 h2 h3 h4 h5 h6 h7 = got8 any any any any any any any any (λ x1 x2 x3 x4 x5 x6 x7 x8. cast_signed w64 (from_be_bytes w64 (x1 ∷ x2 ∷ x3 ∷ x4 ∷ x5 ∷ x6 ∷ x7 ∷ x8 ∷ []))) b0 b1 b2 b3 b4 b5 b6 b7 b8 x1 x2 x3 x4 x5 x6 x7 x8 h0 h1 h2 h3 h4 h5 h6 h7

pub eight_stop1 : (b0 : List ℕ) (left : ℕ) → read any b0 ≡ Stop left → read eight_reader b0 ≡ Stop left
unfolding eight_reader
eight_stop1 b0 left h0 = stop8_1 any any any any any any any any (λ x1 x2 x3 x4 x5 x6 x7 x8. cast_signed w64 (from_be_bytes w64 (x1 ∷ x2 ∷ x3 ∷ x4 ∷ x5 ∷ x6 ∷ x7 ∷ x8 ∷ []))) b0 left h0

pub eight_stop2 : (b0 b1 : List ℕ) (x1 : ℕ) (left : ℕ) → read any b0 ≡ Got x1 b1 → read any b1 ≡ Stop left → read eight_reader b0 ≡ Stop left
unfolding eight_reader
eight_stop2 b0 b1 x1 left h0 h1 = stop8_2 any any any any any any any any (λ x1 x2 x3 x4 x5 x6 x7 x8. cast_signed w64 (from_be_bytes w64 (x1 ∷ x2 ∷ x3 ∷ x4 ∷ x5 ∷ x6 ∷ x7 ∷ x8 ∷ []))) b0 b1 x1 left h0 h1

pub eight_stop3 : (b0 b1 b2 : List ℕ) (x1 : ℕ) (x2 : ℕ) (left : ℕ) → read any b0 ≡ Got x1 b1 → read any b1 ≡ Got x2 b2 → read any b2 ≡ Stop left → read eight_reader b0 ≡ Stop left
unfolding eight_reader
eight_stop3 b0 b1 b2 x1 x2 left h0 h1 h2 = stop8_3 any any any any any any any any (λ x1 x2 x3 x4 x5 x6 x7 x8. cast_signed w64 (from_be_bytes w64 (x1 ∷ x2 ∷ x3 ∷ x4 ∷ x5 ∷ x6 ∷ x7 ∷ x8 ∷ []))) b0 b1 b2 x1 x2 left h0 h1 h2

pub eight_stop4 : (b0 b1 b2 b3 : List ℕ) (x1 : ℕ) (x2 : ℕ) (x3 : ℕ) (left : ℕ) → read any b0 ≡ Got x1 b1 → read any b1 ≡ Got x2 b2 → read any b2 ≡ Got x3 b3 → read any b3 ≡ Stop left → read eight_reader b0 ≡ Stop left
unfolding eight_reader
eight_stop4 b0 b1 b2 b3 x1 x2 x3 left h0 h1 h2 h3 = stop8_4 any any any any any any any any (λ x1 x2 x3 x4 x5 x6 x7 x8. cast_signed w64 (from_be_bytes w64 (x1 ∷ x2 ∷ x3 ∷ x4 ∷ x5 ∷ x6 ∷ x7 ∷ x8 ∷ []))) b0 b1 b2 b3 x1 x2 x3 left h0 h1 h2 h3

pub eight_stop5 : (b0 b1 b2 b3 b4 : List ℕ) (x1 : ℕ) (x2 : ℕ) (x3 : ℕ) (x4 : ℕ) (left : ℕ) → read any b0 ≡ Got x1 b1 → read any b1 ≡ Got x2 b2 → read any b2 ≡ Got x3 b3 → read any b3 ≡ Got x4 b4 → read any b4 ≡ Stop left → read eight_reader b0 ≡ Stop left
unfolding eight_reader
eight_stop5 b0 b1 b2 b3 b4 x1 x2 x3 x4 left h0 h1 h2 h3 h4 = stop8_5 any any any any any any any any (λ x1 x2 x3 x4 x5 x6 x7 x8. cast_signed w64 (from_be_bytes w64 (x1 ∷ x2 ∷ x3 ∷ x4 ∷ x5 ∷ x6 ∷ x7 ∷ x8 ∷ []))) b0 b1 b2 b3 b4 x1 x2 x3 x4 left h0 h1 h2 h3 h4

pub eight_stop6 : (b0 b1 b2 b3 b4 b5 : List ℕ) (x1 : ℕ) (x2 : ℕ) (x3 : ℕ) (x4 : ℕ) (x5 : ℕ) (left : ℕ) → read any b0 ≡ Got x1 b1 → read any b1 ≡ Got x2 b2 → read any b2 ≡ Got x3 b3 → read any b3 ≡ Got x4 b4 → read any b4 ≡ Got x5 b5 → read any b5 ≡ Stop left → read eight_reader b0 ≡ Stop left
unfolding eight_reader
eight_stop6 b0 b1 b2 b3 b4 b5 x1 x2 x3 x4 x5 left h0 h1 h2 h3 h4 h5 = stop8_6 any any any any any any any any (λ x1 x2 x3 x4 x5 x6 x7 x8. cast_signed w64 (from_be_bytes w64 (x1 ∷ x2 ∷ x3 ∷ x4 ∷ x5 ∷ x6 ∷ x7 ∷ x8 ∷ []))) b0 b1 b2 b3 b4 b5 x1 x2 x3 x4 x5 left h0 h1 h2 h3 h4 h5

pub eight_stop7 : (b0 b1 b2 b3 b4 b5 b6 : List ℕ) (x1 : ℕ) (x2 : ℕ) (x3 : ℕ) (x4 : ℕ) (x5 : ℕ) (x6 : ℕ) (left : ℕ) → read any b0 ≡ Got x1 b1 → read any b1 ≡ Got x2 b2 → read any b2 ≡ Got x3 b3 → read any b3 ≡ Got x4 b4 → read any b4 ≡ Got x5 b5 → read any b5 ≡ Got x6 b6 → read any b6 ≡ Stop left → read eight_reader b0 ≡ Stop left
unfolding eight_reader
eight_stop7 b0 b1 b2 b3 b4 b5 b6 x1 x2 x3 x4 x5 x6 left h0 h1 h2 h3 h4 h5 h6 = stop8_7 any any any any any any any any (λ x1 x2 x3 x4 x5 x6 x7 x8. cast_signed w64 (from_be_bytes w64 (x1 ∷ x2 ∷ x3 ∷ x4 ∷ x5 ∷ x6 ∷ x7 ∷ x8 ∷ []))) b0 b1 b2 b3 b4 b5 b6 x1 x2 x3 x4 x5 x6 left h0 h1 h2 h3 h4 h5 h6

pub eight_stop8 : (b0 b1 b2 b3 b4 b5 b6 b7 : List ℕ) (x1 : ℕ) (x2 : ℕ) (x3 : ℕ) (x4 : ℕ) (x5 : ℕ) (x6 : ℕ) (x7 : ℕ) (left : ℕ) → read any b0 ≡ Got x1 b1 → read any b1 ≡ Got x2 b2 → read any b2 ≡ Got x3 b3 → read any b3 ≡ Got x4 b4 → read any b4 ≡ Got x5 b5 → read any b5 ≡ Got x6 b6 → read any b6 ≡ Got x7 b7 → read any b7 ≡ Stop left → read eight_reader b0 ≡ Stop left
unfolding eight_reader
eight_stop8 b0 b1 b2 b3 b4 b5 b6 b7 x1 x2 x3 x4 x5 x6 x7 left h0 h1 h2 h3 h4 h5 h6 h7 = stop8_8 any any any any any any any any (λ x1 x2 x3 x4 x5 x6 x7 x8. cast_signed w64 (from_be_bytes w64 (x1 ∷ x2 ∷ x3 ∷ x4 ∷ x5 ∷ x6 ∷ x7 ∷ x8 ∷ []))) b0 b1 b2 b3 b4 b5 b6 b7 x1 x2 x3 x4 x5 x6 x7 left h0 h1 h2 h3 h4 h5 h6 h7

pub owned_got : (b0 b1 b2 : List ℕ) (x1 : ℕ) (x2 : List ℕ) → read two_reader b0 ≡ Got x1 b1 → read set_reader b1 ≡ Got x2 b2 → read owned_reader b0 ≡ Got (K.Owned x1 x2) b2
unfolding owned_reader
owned_got b0 b1 b2 x1 x2 h0 h1 = got2 two_reader set_reader (λ x1 x2. K.Owned x1 x2) b0 b1 b2 x1 x2 h0 h1

pub owned_stop1 : (b0 : List ℕ) (left : ℕ) → read two_reader b0 ≡ Stop left → read owned_reader b0 ≡ Stop left
unfolding owned_reader
owned_stop1 b0 left h0 = stop2_1 two_reader set_reader (λ x1 x2. K.Owned x1 x2) b0 left h0

pub owned_stop2 : (b0 b1 : List ℕ) (x1 : ℕ) (left : ℕ) → read two_reader b0 ≡ Got x1 b1 → read set_reader b1 ≡ Stop left → read owned_reader b0 ≡ Stop left
unfolding owned_reader
owned_stop2 b0 b1 x1 left h0 h1 = stop2_2 two_reader set_reader (λ x1 x2. K.Owned x1 x2) b0 b1 x1 left h0 h1

pub lent_got : (b0 b1 b2 b3 b4 : List ℕ) (x1 : ℕ) (x2 : List ℕ) (x3 : Option ℕ) (x4 : Option From) → read two_reader b0 ≡ Got x1 b1 → read set_reader b1 ≡ Got x2 b2 → read register_reader b2 ≡ Got x3 b3 → read from_reader b3 ≡ Got x4 b4 → read lent_reader b0 ≡ Got (K.Lent x1 x2 x3 x4) b4
unfolding lent_reader
lent_got b0 b1 b2 b3 b4 x1 x2 x3 x4 h0 h1 h2 h3 = got4 two_reader set_reader register_reader from_reader (λ x1 x2 x3 x4. K.Lent x1 x2 x3 x4) b0 b1 b2 b3 b4 x1 x2 x3 x4 h0 h1 h2 h3

pub lent_stop1 : (b0 : List ℕ) (left : ℕ) → read two_reader b0 ≡ Stop left → read lent_reader b0 ≡ Stop left
unfolding lent_reader
lent_stop1 b0 left h0 = stop4_1 two_reader set_reader register_reader from_reader (λ x1 x2 x3 x4. K.Lent x1 x2 x3 x4) b0 left h0

pub lent_stop2 : (b0 b1 : List ℕ) (x1 : ℕ) (left : ℕ) → read two_reader b0 ≡ Got x1 b1 → read set_reader b1 ≡ Stop left → read lent_reader b0 ≡ Stop left
unfolding lent_reader
lent_stop2 b0 b1 x1 left h0 h1 = stop4_2 two_reader set_reader register_reader from_reader (λ x1 x2 x3 x4. K.Lent x1 x2 x3 x4) b0 b1 x1 left h0 h1

pub lent_stop3 : (b0 b1 b2 : List ℕ) (x1 : ℕ) (x2 : List ℕ) (left : ℕ) → read two_reader b0 ≡ Got x1 b1 → read set_reader b1 ≡ Got x2 b2 → read register_reader b2 ≡ Stop left → read lent_reader b0 ≡ Stop left
unfolding lent_reader
lent_stop3 b0 b1 b2 x1 x2 left h0 h1 h2 = stop4_3 two_reader set_reader register_reader from_reader (λ x1 x2 x3 x4. K.Lent x1 x2 x3 x4) b0 b1 b2 x1 x2 left h0 h1 h2

pub lent_stop4 : (b0 b1 b2 b3 : List ℕ) (x1 : ℕ) (x2 : List ℕ) (x3 : Option ℕ) (left : ℕ) → read two_reader b0 ≡ Got x1 b1 → read set_reader b1 ≡ Got x2 b2 → read register_reader b2 ≡ Got x3 b3 → read from_reader b3 ≡ Stop left → read lent_reader b0 ≡ Stop left
unfolding lent_reader
lent_stop4 b0 b1 b2 b3 x1 x2 x3 left h0 h1 h2 h3 = stop4_4 two_reader set_reader register_reader from_reader (λ x1 x2 x3 x4. K.Lent x1 x2 x3 x4) b0 b1 b2 b3 x1 x2 x3 left h0 h1 h2 h3

pub scalar_got : (b0 b1 : List ℕ) (x1 : ℕ) → read two_reader b0 ≡ Got x1 b1 → read scalar_reader b0 ≡ Got (K.Scalar x1) b1
unfolding scalar_reader
scalar_got b0 b1 x1 h0 = got1 two_reader (λ x1. K.Scalar x1) b0 b1 x1 h0

pub scalar_stop1 : (b0 : List ℕ) (left : ℕ) → read two_reader b0 ≡ Stop left → read scalar_reader b0 ≡ Stop left
unfolding scalar_reader
scalar_stop1 b0 left h0 = stop1_1 two_reader (λ x1. K.Scalar x1) b0 left h0

pub credit_got : (b0 b1 : List ℕ) (x1 : ℕ) → read any b0 ≡ Got x1 b1 → read credit_reader b0 ≡ Got (K.Credit x1) b1
unfolding credit_reader
credit_got b0 b1 x1 h0 = got1 any (λ x1. K.Credit x1) b0 b1 x1 h0

pub credit_stop1 : (b0 : List ℕ) (left : ℕ) → read any b0 ≡ Stop left → read credit_reader b0 ≡ Stop left
unfolding credit_reader
credit_stop1 b0 left h0 = stop1_1 any (λ x1. K.Credit x1) b0 left h0

pub operator_got : (b0 b1 : List ℕ) (x1 : ℕ) → read (byte (is_in_range 0 10)) b0 ≡ Got x1 b1 → read operator_reader b0 ≡ Got (operator_at x1) b1
unfolding operator_reader
operator_got b0 b1 x1 h0 = got1 (byte (is_in_range 0 10)) (λ x1. operator_at x1) b0 b1 x1 h0

pub operator_stop1 : (b0 : List ℕ) (left : ℕ) → read (byte (is_in_range 0 10)) b0 ≡ Stop left → read operator_reader b0 ≡ Stop left
unfolding operator_reader
operator_stop1 b0 left h0 = stop1_1 (byte (is_in_range 0 10)) (λ x1. operator_at x1) b0 left h0

pub const_got : (b0 b1 b2 : List ℕ) (x1 : ℕ) (x2 : ℤ) → read two_reader b0 ≡ Got x1 b1 → read eight_reader b1 ≡ Got x2 b2 → read const_reader b0 ≡ Got (I.Const x1 x2) b2
unfolding const_reader
const_got b0 b1 b2 x1 x2 h0 h1 = got2 two_reader eight_reader (λ x1 x2. I.Const x1 x2) b0 b1 b2 x1 x2 h0 h1

pub const_stop1 : (b0 : List ℕ) (left : ℕ) → read two_reader b0 ≡ Stop left → read const_reader b0 ≡ Stop left
unfolding const_reader
const_stop1 b0 left h0 = stop2_1 two_reader eight_reader (λ x1 x2. I.Const x1 x2) b0 left h0

pub const_stop2 : (b0 b1 : List ℕ) (x1 : ℕ) (left : ℕ) → read two_reader b0 ≡ Got x1 b1 → read eight_reader b1 ≡ Stop left → read const_reader b0 ≡ Stop left
unfolding const_reader
const_stop2 b0 b1 x1 left h0 h1 = stop2_2 two_reader eight_reader (λ x1 x2. I.Const x1 x2) b0 b1 x1 left h0 h1

pub atom_got : (b0 b1 b2 b3 : List ℕ) (x1 : ℕ) (x2 : ℕ) (x3 : ℕ) → read two_reader b0 ≡ Got x1 b1 → read two_reader b1 ≡ Got x2 b2 → read four_reader b2 ≡ Got x3 b3 → read atom_reader b0 ≡ Got (I.Atom x1 x2 x3) b3
unfolding atom_reader
atom_got b0 b1 b2 b3 x1 x2 x3 h0 h1 h2 = got3 two_reader two_reader four_reader (λ x1 x2 x3. I.Atom x1 x2 x3) b0 b1 b2 b3 x1 x2 x3 h0 h1 h2

pub atom_stop1 : (b0 : List ℕ) (left : ℕ) → read two_reader b0 ≡ Stop left → read atom_reader b0 ≡ Stop left
unfolding atom_reader
atom_stop1 b0 left h0 = stop3_1 two_reader two_reader four_reader (λ x1 x2 x3. I.Atom x1 x2 x3) b0 left h0

pub atom_stop2 : (b0 b1 : List ℕ) (x1 : ℕ) (left : ℕ) → read two_reader b0 ≡ Got x1 b1 → read two_reader b1 ≡ Stop left → read atom_reader b0 ≡ Stop left
unfolding atom_reader
atom_stop2 b0 b1 x1 left h0 h1 = stop3_2 two_reader two_reader four_reader (λ x1 x2 x3. I.Atom x1 x2 x3) b0 b1 x1 left h0 h1

pub atom_stop3 : (b0 b1 b2 : List ℕ) (x1 : ℕ) (x2 : ℕ) (left : ℕ) → read two_reader b0 ≡ Got x1 b1 → read two_reader b1 ≡ Got x2 b2 → read four_reader b2 ≡ Stop left → read atom_reader b0 ≡ Stop left
unfolding atom_reader
atom_stop3 b0 b1 b2 x1 x2 left h0 h1 h2 = stop3_3 two_reader two_reader four_reader (λ x1 x2 x3. I.Atom x1 x2 x3) b0 b1 b2 x1 x2 left h0 h1 h2

pub move_got : (b0 b1 b2 : List ℕ) (x1 : ℕ) (x2 : ℕ) → read two_reader b0 ≡ Got x1 b1 → read two_reader b1 ≡ Got x2 b2 → read move_reader b0 ≡ Got (I.Move x1 x2) b2
unfolding move_reader
move_got b0 b1 b2 x1 x2 h0 h1 = got2 two_reader two_reader (λ x1 x2. I.Move x1 x2) b0 b1 b2 x1 x2 h0 h1

pub move_stop1 : (b0 : List ℕ) (left : ℕ) → read two_reader b0 ≡ Stop left → read move_reader b0 ≡ Stop left
unfolding move_reader
move_stop1 b0 left h0 = stop2_1 two_reader two_reader (λ x1 x2. I.Move x1 x2) b0 left h0

pub move_stop2 : (b0 b1 : List ℕ) (x1 : ℕ) (left : ℕ) → read two_reader b0 ≡ Got x1 b1 → read two_reader b1 ≡ Stop left → read move_reader b0 ≡ Stop left
unfolding move_reader
move_stop2 b0 b1 x1 left h0 h1 = stop2_2 two_reader two_reader (λ x1 x2. I.Move x1 x2) b0 b1 x1 left h0 h1

pub arith_got : (b0 b1 b2 b3 b4 b5 b6 : List ℕ) (x1 : ℕ) (x2 : Operator) (x3 : ℕ) (x4 : ℕ) (x5 : ℕ) (x6 : ℕ) → read two_reader b0 ≡ Got x1 b1 → read operator_reader b1 ≡ Got x2 b2 → read two_reader b2 ≡ Got x3 b3 → read two_reader b3 ≡ Got x4 b4 → read four_reader b4 ≡ Got x5 b5 → read four_reader b5 ≡ Got x6 b6 → read arith_reader b0 ≡ Got (I.Arith x1 x2 x3 x4 x5 x6) b6
unfolding arith_reader
arith_got b0 b1 b2 b3 b4 b5 b6 x1 x2 x3 x4 x5 x6 h0 h1 h2 h3 h4 h5 = got6 two_reader operator_reader two_reader two_reader four_reader four_reader (λ x1 x2 x3 x4 x5 x6. I.Arith x1 x2 x3 x4 x5 x6) b0 b1 b2 b3 b4 b5 b6 x1 x2 x3 x4 x5 x6 h0 h1 h2 h3 h4 h5

pub arith_stop1 : (b0 : List ℕ) (left : ℕ) → read two_reader b0 ≡ Stop left → read arith_reader b0 ≡ Stop left
unfolding arith_reader
arith_stop1 b0 left h0 = stop6_1 two_reader operator_reader two_reader two_reader four_reader four_reader (λ x1 x2 x3 x4 x5 x6. I.Arith x1 x2 x3 x4 x5 x6) b0 left h0

pub arith_stop2 : (b0 b1 : List ℕ) (x1 : ℕ) (left : ℕ) → read two_reader b0 ≡ Got x1 b1 → read operator_reader b1 ≡ Stop left → read arith_reader b0 ≡ Stop left
unfolding arith_reader
arith_stop2 b0 b1 x1 left h0 h1 = stop6_2 two_reader operator_reader two_reader two_reader four_reader four_reader (λ x1 x2 x3 x4 x5 x6. I.Arith x1 x2 x3 x4 x5 x6) b0 b1 x1 left h0 h1

pub arith_stop3 : (b0 b1 b2 : List ℕ) (x1 : ℕ) (x2 : Operator) (left : ℕ) → read two_reader b0 ≡ Got x1 b1 → read operator_reader b1 ≡ Got x2 b2 → read two_reader b2 ≡ Stop left → read arith_reader b0 ≡ Stop left
unfolding arith_reader
arith_stop3 b0 b1 b2 x1 x2 left h0 h1 h2 = stop6_3 two_reader operator_reader two_reader two_reader four_reader four_reader (λ x1 x2 x3 x4 x5 x6. I.Arith x1 x2 x3 x4 x5 x6) b0 b1 b2 x1 x2 left h0 h1 h2

pub arith_stop4 : (b0 b1 b2 b3 : List ℕ) (x1 : ℕ) (x2 : Operator) (x3 : ℕ) (left : ℕ) → read two_reader b0 ≡ Got x1 b1 → read operator_reader b1 ≡ Got x2 b2 → read two_reader b2 ≡ Got x3 b3 → read two_reader b3 ≡ Stop left → read arith_reader b0 ≡ Stop left
unfolding arith_reader
arith_stop4 b0 b1 b2 b3 x1 x2 x3 left h0 h1 h2 h3 = stop6_4 two_reader operator_reader two_reader two_reader four_reader four_reader (λ x1 x2 x3 x4 x5 x6. I.Arith x1 x2 x3 x4 x5 x6) b0 b1 b2 b3 x1 x2 x3 left h0 h1 h2 h3

pub arith_stop5 : (b0 b1 b2 b3 b4 : List ℕ) (x1 : ℕ) (x2 : Operator) (x3 : ℕ) (x4 : ℕ) (left : ℕ) → read two_reader b0 ≡ Got x1 b1 → read operator_reader b1 ≡ Got x2 b2 → read two_reader b2 ≡ Got x3 b3 → read two_reader b3 ≡ Got x4 b4 → read four_reader b4 ≡ Stop left → read arith_reader b0 ≡ Stop left
unfolding arith_reader
arith_stop5 b0 b1 b2 b3 b4 x1 x2 x3 x4 left h0 h1 h2 h3 h4 = stop6_5 two_reader operator_reader two_reader two_reader four_reader four_reader (λ x1 x2 x3 x4 x5 x6. I.Arith x1 x2 x3 x4 x5 x6) b0 b1 b2 b3 b4 x1 x2 x3 x4 left h0 h1 h2 h3 h4

pub arith_stop6 : (b0 b1 b2 b3 b4 b5 : List ℕ) (x1 : ℕ) (x2 : Operator) (x3 : ℕ) (x4 : ℕ) (x5 : ℕ) (left : ℕ) → read two_reader b0 ≡ Got x1 b1 → read operator_reader b1 ≡ Got x2 b2 → read two_reader b2 ≡ Got x3 b3 → read two_reader b3 ≡ Got x4 b4 → read four_reader b4 ≡ Got x5 b5 → read four_reader b5 ≡ Stop left → read arith_reader b0 ≡ Stop left
unfolding arith_reader
arith_stop6 b0 b1 b2 b3 b4 b5 x1 x2 x3 x4 x5 left h0 h1 h2 h3 h4 h5 = stop6_6 two_reader operator_reader two_reader two_reader four_reader four_reader (λ x1 x2 x3 x4 x5 x6. I.Arith x1 x2 x3 x4 x5 x6) b0 b1 b2 b3 b4 b5 x1 x2 x3 x4 x5 left h0 h1 h2 h3 h4 h5

pub test_got : (b0 b1 b2 b3 : List ℕ) (x1 : ℕ) (x2 : ℕ) (x3 : ℕ) → read two_reader b0 ≡ Got x1 b1 → read four_reader b1 ≡ Got x2 b2 → read four_reader b2 ≡ Got x3 b3 → read test_reader b0 ≡ Got (I.Test x1 x2 x3) b3
unfolding test_reader
test_got b0 b1 b2 b3 x1 x2 x3 h0 h1 h2 = got3 two_reader four_reader four_reader (λ x1 x2 x3. I.Test x1 x2 x3) b0 b1 b2 b3 x1 x2 x3 h0 h1 h2

pub test_stop1 : (b0 : List ℕ) (left : ℕ) → read two_reader b0 ≡ Stop left → read test_reader b0 ≡ Stop left
unfolding test_reader
test_stop1 b0 left h0 = stop3_1 two_reader four_reader four_reader (λ x1 x2 x3. I.Test x1 x2 x3) b0 left h0

pub test_stop2 : (b0 b1 : List ℕ) (x1 : ℕ) (left : ℕ) → read two_reader b0 ≡ Got x1 b1 → read four_reader b1 ≡ Stop left → read test_reader b0 ≡ Stop left
unfolding test_reader
test_stop2 b0 b1 x1 left h0 h1 = stop3_2 two_reader four_reader four_reader (λ x1 x2 x3. I.Test x1 x2 x3) b0 b1 x1 left h0 h1

pub test_stop3 : (b0 b1 b2 : List ℕ) (x1 : ℕ) (x2 : ℕ) (left : ℕ) → read two_reader b0 ≡ Got x1 b1 → read four_reader b1 ≡ Got x2 b2 → read four_reader b2 ≡ Stop left → read test_reader b0 ≡ Stop left
unfolding test_reader
test_stop3 b0 b1 b2 x1 x2 left h0 h1 h2 = stop3_3 two_reader four_reader four_reader (λ x1 x2 x3. I.Test x1 x2 x3) b0 b1 b2 x1 x2 left h0 h1 h2

pub test_int_got : (b0 b1 b2 b3 : List ℕ) (x1 : ℕ) (x2 : ℤ) (x3 : ℕ) → read two_reader b0 ≡ Got x1 b1 → read eight_reader b1 ≡ Got x2 b2 → read four_reader b2 ≡ Got x3 b3 → read test_int_reader b0 ≡ Got (I.TestInt x1 x2 x3) b3
unfolding test_int_reader
test_int_got b0 b1 b2 b3 x1 x2 x3 h0 h1 h2 = got3 two_reader eight_reader four_reader (λ x1 x2 x3. I.TestInt x1 x2 x3) b0 b1 b2 b3 x1 x2 x3 h0 h1 h2

pub test_int_stop1 : (b0 : List ℕ) (left : ℕ) → read two_reader b0 ≡ Stop left → read test_int_reader b0 ≡ Stop left
unfolding test_int_reader
test_int_stop1 b0 left h0 = stop3_1 two_reader eight_reader four_reader (λ x1 x2 x3. I.TestInt x1 x2 x3) b0 left h0

pub test_int_stop2 : (b0 b1 : List ℕ) (x1 : ℕ) (left : ℕ) → read two_reader b0 ≡ Got x1 b1 → read eight_reader b1 ≡ Stop left → read test_int_reader b0 ≡ Stop left
unfolding test_int_reader
test_int_stop2 b0 b1 x1 left h0 h1 = stop3_2 two_reader eight_reader four_reader (λ x1 x2 x3. I.TestInt x1 x2 x3) b0 b1 x1 left h0 h1

pub test_int_stop3 : (b0 b1 b2 : List ℕ) (x1 : ℕ) (x2 : ℤ) (left : ℕ) → read two_reader b0 ≡ Got x1 b1 → read eight_reader b1 ≡ Got x2 b2 → read four_reader b2 ≡ Stop left → read test_int_reader b0 ≡ Stop left
unfolding test_int_reader
test_int_stop3 b0 b1 b2 x1 x2 left h0 h1 h2 = stop3_3 two_reader eight_reader four_reader (λ x1 x2 x3. I.TestInt x1 x2 x3) b0 b1 b2 x1 x2 left h0 h1 h2

pub peek_got : (b0 b1 b2 b3 : List ℕ) (x1 : ℕ) (x2 : ℕ) (x3 : ℕ) → read two_reader b0 ≡ Got x1 b1 → read two_reader b1 ≡ Got x2 b2 → read any b2 ≡ Got x3 b3 → read peek_reader b0 ≡ Got (I.Peek x1 x2 x3) b3
unfolding peek_reader
peek_got b0 b1 b2 b3 x1 x2 x3 h0 h1 h2 = got3 two_reader two_reader any (λ x1 x2 x3. I.Peek x1 x2 x3) b0 b1 b2 b3 x1 x2 x3 h0 h1 h2

pub peek_stop1 : (b0 : List ℕ) (left : ℕ) → read two_reader b0 ≡ Stop left → read peek_reader b0 ≡ Stop left
unfolding peek_reader
peek_stop1 b0 left h0 = stop3_1 two_reader two_reader any (λ x1 x2 x3. I.Peek x1 x2 x3) b0 left h0

pub peek_stop2 : (b0 b1 : List ℕ) (x1 : ℕ) (left : ℕ) → read two_reader b0 ≡ Got x1 b1 → read two_reader b1 ≡ Stop left → read peek_reader b0 ≡ Stop left
unfolding peek_reader
peek_stop2 b0 b1 x1 left h0 h1 = stop3_2 two_reader two_reader any (λ x1 x2 x3. I.Peek x1 x2 x3) b0 b1 x1 left h0 h1

pub peek_stop3 : (b0 b1 b2 : List ℕ) (x1 : ℕ) (x2 : ℕ) (left : ℕ) → read two_reader b0 ≡ Got x1 b1 → read two_reader b1 ≡ Got x2 b2 → read any b2 ≡ Stop left → read peek_reader b0 ≡ Stop left
unfolding peek_reader
peek_stop3 b0 b1 b2 x1 x2 left h0 h1 h2 = stop3_3 two_reader two_reader any (λ x1 x2 x3. I.Peek x1 x2 x3) b0 b1 b2 x1 x2 left h0 h1 h2

pub take_got : (b0 b1 b2 : List ℕ) (x1 : ℕ) (x2 : List ℕ) → read two_reader b0 ≡ Got x1 b1 → read list_reader b1 ≡ Got x2 b2 → read take_reader b0 ≡ Got (I.Take x1 x2) b2
unfolding take_reader
take_got b0 b1 b2 x1 x2 h0 h1 = got2 two_reader list_reader (λ x1 x2. I.Take x1 x2) b0 b1 b2 x1 x2 h0 h1

pub take_stop1 : (b0 : List ℕ) (left : ℕ) → read two_reader b0 ≡ Stop left → read take_reader b0 ≡ Stop left
unfolding take_reader
take_stop1 b0 left h0 = stop2_1 two_reader list_reader (λ x1 x2. I.Take x1 x2) b0 left h0

pub take_stop2 : (b0 b1 : List ℕ) (x1 : ℕ) (left : ℕ) → read two_reader b0 ≡ Got x1 b1 → read list_reader b1 ≡ Stop left → read take_reader b0 ≡ Stop left
unfolding take_reader
take_stop2 b0 b1 x1 left h0 h1 = stop2_2 two_reader list_reader (λ x1 x2. I.Take x1 x2) b0 b1 x1 left h0 h1

pub put_got : (b0 b1 b2 b3 b4 : List ℕ) (x1 : ℕ) (x2 : ℕ) (x3 : ℕ) (x4 : List ℕ) → read two_reader b0 ≡ Got x1 b1 → read two_reader b1 ≡ Got x2 b2 → read four_reader b2 ≡ Got x3 b3 → read list_reader b3 ≡ Got x4 b4 → read put_reader b0 ≡ Got (I.Put x1 x2 x3 x4) b4
unfolding put_reader
put_got b0 b1 b2 b3 b4 x1 x2 x3 x4 h0 h1 h2 h3 = got4 two_reader two_reader four_reader list_reader (λ x1 x2 x3 x4. I.Put x1 x2 x3 x4) b0 b1 b2 b3 b4 x1 x2 x3 x4 h0 h1 h2 h3

pub put_stop1 : (b0 : List ℕ) (left : ℕ) → read two_reader b0 ≡ Stop left → read put_reader b0 ≡ Stop left
unfolding put_reader
put_stop1 b0 left h0 = stop4_1 two_reader two_reader four_reader list_reader (λ x1 x2 x3 x4. I.Put x1 x2 x3 x4) b0 left h0

pub put_stop2 : (b0 b1 : List ℕ) (x1 : ℕ) (left : ℕ) → read two_reader b0 ≡ Got x1 b1 → read two_reader b1 ≡ Stop left → read put_reader b0 ≡ Stop left
unfolding put_reader
put_stop2 b0 b1 x1 left h0 h1 = stop4_2 two_reader two_reader four_reader list_reader (λ x1 x2 x3 x4. I.Put x1 x2 x3 x4) b0 b1 x1 left h0 h1

pub put_stop3 : (b0 b1 b2 : List ℕ) (x1 : ℕ) (x2 : ℕ) (left : ℕ) → read two_reader b0 ≡ Got x1 b1 → read two_reader b1 ≡ Got x2 b2 → read four_reader b2 ≡ Stop left → read put_reader b0 ≡ Stop left
unfolding put_reader
put_stop3 b0 b1 b2 x1 x2 left h0 h1 h2 = stop4_3 two_reader two_reader four_reader list_reader (λ x1 x2 x3 x4. I.Put x1 x2 x3 x4) b0 b1 b2 x1 x2 left h0 h1 h2

pub put_stop4 : (b0 b1 b2 b3 : List ℕ) (x1 : ℕ) (x2 : ℕ) (x3 : ℕ) (left : ℕ) → read two_reader b0 ≡ Got x1 b1 → read two_reader b1 ≡ Got x2 b2 → read four_reader b2 ≡ Got x3 b3 → read list_reader b3 ≡ Stop left → read put_reader b0 ≡ Stop left
unfolding put_reader
put_stop4 b0 b1 b2 b3 x1 x2 x3 left h0 h1 h2 h3 = stop4_4 two_reader two_reader four_reader list_reader (λ x1 x2 x3 x4. I.Put x1 x2 x3 x4) b0 b1 b2 b3 x1 x2 x3 left h0 h1 h2 h3

pub drop_got : (b0 b1 : List ℕ) (x1 : ℕ) → read two_reader b0 ≡ Got x1 b1 → read drop_reader b0 ≡ Got (I.Drop x1) b1
unfolding drop_reader
drop_got b0 b1 x1 h0 = got1 two_reader (λ x1. I.Drop x1) b0 b1 x1 h0

pub drop_stop1 : (b0 : List ℕ) (left : ℕ) → read two_reader b0 ≡ Stop left → read drop_reader b0 ≡ Stop left
unfolding drop_reader
drop_stop1 b0 left h0 = stop1_1 two_reader (λ x1. I.Drop x1) b0 left h0

pub free_got : (b0 b1 : List ℕ) (x1 : ℕ) → read two_reader b0 ≡ Got x1 b1 → read free_reader b0 ≡ Got (I.Free x1) b1
unfolding free_reader
free_got b0 b1 x1 h0 = got1 two_reader (λ x1. I.Free x1) b0 b1 x1 h0

pub free_stop1 : (b0 : List ℕ) (left : ℕ) → read two_reader b0 ≡ Stop left → read free_reader b0 ≡ Stop left
unfolding free_reader
free_stop1 b0 left h0 = stop1_1 two_reader (λ x1. I.Free x1) b0 left h0

pub call_got : (b0 b1 b2 b3 : List ℕ) (x1 : ℕ) (x2 : List ℕ) (x3 : List ℕ) → read four_reader b0 ≡ Got x1 b1 → read arguments_reader b1 ≡ Got x2 b2 → read list_reader b2 ≡ Got x3 b3 → read call_reader b0 ≡ Got (I.Call x1 x2 x3) b3
unfolding call_reader
call_got b0 b1 b2 b3 x1 x2 x3 h0 h1 h2 = got3 four_reader arguments_reader list_reader (λ x1 x2 x3. I.Call x1 x2 x3) b0 b1 b2 b3 x1 x2 x3 h0 h1 h2

pub call_stop1 : (b0 : List ℕ) (left : ℕ) → read four_reader b0 ≡ Stop left → read call_reader b0 ≡ Stop left
unfolding call_reader
call_stop1 b0 left h0 = stop3_1 four_reader arguments_reader list_reader (λ x1 x2 x3. I.Call x1 x2 x3) b0 left h0

pub call_stop2 : (b0 b1 : List ℕ) (x1 : ℕ) (left : ℕ) → read four_reader b0 ≡ Got x1 b1 → read arguments_reader b1 ≡ Stop left → read call_reader b0 ≡ Stop left
unfolding call_reader
call_stop2 b0 b1 x1 left h0 h1 = stop3_2 four_reader arguments_reader list_reader (λ x1 x2 x3. I.Call x1 x2 x3) b0 b1 x1 left h0 h1

pub call_stop3 : (b0 b1 b2 : List ℕ) (x1 : ℕ) (x2 : List ℕ) (left : ℕ) → read four_reader b0 ≡ Got x1 b1 → read arguments_reader b1 ≡ Got x2 b2 → read list_reader b2 ≡ Stop left → read call_reader b0 ≡ Stop left
unfolding call_reader
call_stop3 b0 b1 b2 x1 x2 left h0 h1 h2 = stop3_3 four_reader arguments_reader list_reader (λ x1 x2 x3. I.Call x1 x2 x3) b0 b1 b2 x1 x2 left h0 h1 h2

pub tail_got : (b0 b1 b2 : List ℕ) (x1 : ℕ) (x2 : List ℕ) → read four_reader b0 ≡ Got x1 b1 → read arguments_reader b1 ≡ Got x2 b2 → read tail_reader b0 ≡ Got (I.Tail x1 x2) b2
unfolding tail_reader
tail_got b0 b1 b2 x1 x2 h0 h1 = got2 four_reader arguments_reader (λ x1 x2. I.Tail x1 x2) b0 b1 b2 x1 x2 h0 h1

pub tail_stop1 : (b0 : List ℕ) (left : ℕ) → read four_reader b0 ≡ Stop left → read tail_reader b0 ≡ Stop left
unfolding tail_reader
tail_stop1 b0 left h0 = stop2_1 four_reader arguments_reader (λ x1 x2. I.Tail x1 x2) b0 left h0

pub tail_stop2 : (b0 b1 : List ℕ) (x1 : ℕ) (left : ℕ) → read four_reader b0 ≡ Got x1 b1 → read arguments_reader b1 ≡ Stop left → read tail_reader b0 ≡ Stop left
unfolding tail_reader
tail_stop2 b0 b1 x1 left h0 h1 = stop2_2 four_reader arguments_reader (λ x1 x2. I.Tail x1 x2) b0 b1 x1 left h0 h1

pub ret_got : (b0 b1 : List ℕ) (x1 : List ℕ) → read list_reader b0 ≡ Got x1 b1 → read ret_reader b0 ≡ Got (I.Ret x1) b1
unfolding ret_reader
ret_got b0 b1 x1 h0 = got1 list_reader (λ x1. I.Ret x1) b0 b1 x1 h0

pub ret_stop1 : (b0 : List ℕ) (left : ℕ) → read list_reader b0 ≡ Stop left → read ret_reader b0 ≡ Stop left
unfolding ret_reader
ret_stop1 b0 left h0 = stop1_1 list_reader (λ x1. I.Ret x1) b0 left h0

pub jump_got : (b0 b1 : List ℕ) (x1 : ℕ) → read four_reader b0 ≡ Got x1 b1 → read jump_reader b0 ≡ Got (I.Jump x1) b1
unfolding jump_reader
jump_got b0 b1 x1 h0 = got1 four_reader (λ x1. I.Jump x1) b0 b1 x1 h0

pub jump_stop1 : (b0 : List ℕ) (left : ℕ) → read four_reader b0 ≡ Stop left → read jump_reader b0 ≡ Stop left
unfolding jump_reader
jump_stop1 b0 left h0 = stop1_1 four_reader (λ x1. I.Jump x1) b0 left h0

abbrev shape_of : List ℕ → List ℕ → Shape
shape_of name fields = record { name = name; fields = fields }

pub shape_got : (b0 b1 b2 : List ℕ) (x1 : List ℕ) (x2 : List ℕ) → read upper_name_reader b0 ≡ Got x1 b1 → read list_reader b1 ≡ Got x2 b2 → read shape_reader b0 ≡ Got (shape_of x1 x2) b2
unfolding shape_reader
shape_got b0 b1 b2 x1 x2 h0 h1 = got2 upper_name_reader list_reader shape_of b0 b1 b2 x1 x2 h0 h1

pub shape_stop1 : (b0 : List ℕ) (left : ℕ) → read upper_name_reader b0 ≡ Stop left → read shape_reader b0 ≡ Stop left
unfolding shape_reader
shape_stop1 b0 left h0 = stop2_1 upper_name_reader list_reader shape_of b0 left h0

pub shape_stop2 : (b0 b1 : List ℕ) (x1 : List ℕ) (left : ℕ) → read upper_name_reader b0 ≡ Got x1 b1 → read list_reader b1 ≡ Stop left → read shape_reader b0 ≡ Stop left
unfolding shape_reader
shape_stop2 b0 b1 x1 left h0 h1 = stop2_2 upper_name_reader list_reader shape_of b0 b1 x1 left h0 h1

abbrev param_of : ℕ → ℕ → Param
param_of mark ty = record { ty = ty; lent = mark == 1 }

pub param_got : (b0 b1 b2 : List ℕ) (x1 : ℕ) (x2 : ℕ) → read (byte (is_in_range 0 1)) b0 ≡ Got x1 b1 → read two_reader b1 ≡ Got x2 b2 → read param_reader b0 ≡ Got (param_of x1 x2) b2
unfolding param_reader
param_got b0 b1 b2 x1 x2 h0 h1 = got2 (byte (is_in_range 0 1)) two_reader param_of b0 b1 b2 x1 x2 h0 h1

pub param_stop1 : (b0 : List ℕ) (left : ℕ) → read (byte (is_in_range 0 1)) b0 ≡ Stop left → read param_reader b0 ≡ Stop left
unfolding param_reader
param_stop1 b0 left h0 = stop2_1 (byte (is_in_range 0 1)) two_reader param_of b0 left h0

pub param_stop2 : (b0 b1 : List ℕ) (x1 : ℕ) (left : ℕ) → read (byte (is_in_range 0 1)) b0 ≡ Got x1 b1 → read two_reader b1 ≡ Stop left → read param_reader b0 ≡ Stop left
unfolding param_reader
param_stop2 b0 b1 x1 left h0 h1 = stop2_2 (byte (is_in_range 0 1)) two_reader param_of b0 b1 x1 left h0 h1

pub magic_got : (b0 b1 b2 b3 b4 b5 b6 : List ℕ) (x1 : ℕ) (x2 : ℕ) (x3 : ℕ) (x4 : ℕ) (x5 : ℕ) (x6 : ℕ) → read (exactly 70) b0 ≡ Got x1 b1 → read (exactly 80) b1 ≡ Got x2 b2 → read (exactly 50) b2 ≡ Got x3 b3 → read (exactly 67) b3 ≡ Got x4 b4 → read (exactly 0) b4 ≡ Got x5 b5 → read (byte (is_in_range 1 2)) b5 ≡ Got x6 b6 → read magic_reader b0 ≡ Got (if x6 == 1 then First else Second) b6
unfolding magic_reader
magic_got b0 b1 b2 b3 b4 b5 b6 x1 x2 x3 x4 x5 x6 h0 h1 h2 h3 h4 h5 = got6 (exactly 70) (exactly 80) (exactly 50) (exactly 67) (exactly 0) (byte (is_in_range 1 2)) (λ x1 x2 x3 x4 x5 x6. if x6 == 1 then First else Second) b0 b1 b2 b3 b4 b5 b6 x1 x2 x3 x4 x5 x6 h0 h1 h2 h3 h4 h5

pub magic_stop1 : (b0 : List ℕ) (left : ℕ) → read (exactly 70) b0 ≡ Stop left → read magic_reader b0 ≡ Stop left
unfolding magic_reader
magic_stop1 b0 left h0 = stop6_1 (exactly 70) (exactly 80) (exactly 50) (exactly 67) (exactly 0) (byte (is_in_range 1 2)) (λ x1 x2 x3 x4 x5 x6. if x6 == 1 then First else Second) b0 left h0

pub magic_stop2 : (b0 b1 : List ℕ) (x1 : ℕ) (left : ℕ) → read (exactly 70) b0 ≡ Got x1 b1 → read (exactly 80) b1 ≡ Stop left → read magic_reader b0 ≡ Stop left
unfolding magic_reader
magic_stop2 b0 b1 x1 left h0 h1 = stop6_2 (exactly 70) (exactly 80) (exactly 50) (exactly 67) (exactly 0) (byte (is_in_range 1 2)) (λ x1 x2 x3 x4 x5 x6. if x6 == 1 then First else Second) b0 b1 x1 left h0 h1

pub magic_stop3 : (b0 b1 b2 : List ℕ) (x1 : ℕ) (x2 : ℕ) (left : ℕ) → read (exactly 70) b0 ≡ Got x1 b1 → read (exactly 80) b1 ≡ Got x2 b2 → read (exactly 50) b2 ≡ Stop left → read magic_reader b0 ≡ Stop left
unfolding magic_reader
magic_stop3 b0 b1 b2 x1 x2 left h0 h1 h2 = stop6_3 (exactly 70) (exactly 80) (exactly 50) (exactly 67) (exactly 0) (byte (is_in_range 1 2)) (λ x1 x2 x3 x4 x5 x6. if x6 == 1 then First else Second) b0 b1 b2 x1 x2 left h0 h1 h2

pub magic_stop4 : (b0 b1 b2 b3 : List ℕ) (x1 : ℕ) (x2 : ℕ) (x3 : ℕ) (left : ℕ) → read (exactly 70) b0 ≡ Got x1 b1 → read (exactly 80) b1 ≡ Got x2 b2 → read (exactly 50) b2 ≡ Got x3 b3 → read (exactly 67) b3 ≡ Stop left → read magic_reader b0 ≡ Stop left
unfolding magic_reader
magic_stop4 b0 b1 b2 b3 x1 x2 x3 left h0 h1 h2 h3 = stop6_4 (exactly 70) (exactly 80) (exactly 50) (exactly 67) (exactly 0) (byte (is_in_range 1 2)) (λ x1 x2 x3 x4 x5 x6. if x6 == 1 then First else Second) b0 b1 b2 b3 x1 x2 x3 left h0 h1 h2 h3

pub magic_stop5 : (b0 b1 b2 b3 b4 : List ℕ) (x1 : ℕ) (x2 : ℕ) (x3 : ℕ) (x4 : ℕ) (left : ℕ) → read (exactly 70) b0 ≡ Got x1 b1 → read (exactly 80) b1 ≡ Got x2 b2 → read (exactly 50) b2 ≡ Got x3 b3 → read (exactly 67) b3 ≡ Got x4 b4 → read (exactly 0) b4 ≡ Stop left → read magic_reader b0 ≡ Stop left
unfolding magic_reader
magic_stop5 b0 b1 b2 b3 b4 x1 x2 x3 x4 left h0 h1 h2 h3 h4 = stop6_5 (exactly 70) (exactly 80) (exactly 50) (exactly 67) (exactly 0) (byte (is_in_range 1 2)) (λ x1 x2 x3 x4 x5 x6. if x6 == 1 then First else Second) b0 b1 b2 b3 b4 x1 x2 x3 x4 left h0 h1 h2 h3 h4

pub magic_stop6 : (b0 b1 b2 b3 b4 b5 : List ℕ) (x1 : ℕ) (x2 : ℕ) (x3 : ℕ) (x4 : ℕ) (x5 : ℕ) (left : ℕ) → read (exactly 70) b0 ≡ Got x1 b1 → read (exactly 80) b1 ≡ Got x2 b2 → read (exactly 50) b2 ≡ Got x3 b3 → read (exactly 67) b3 ≡ Got x4 b4 → read (exactly 0) b4 ≡ Got x5 b5 → read (byte (is_in_range 1 2)) b5 ≡ Stop left → read magic_reader b0 ≡ Stop left
unfolding magic_reader
magic_stop6 b0 b1 b2 b3 b4 b5 x1 x2 x3 x4 x5 left h0 h1 h2 h3 h4 h5 = stop6_6 (exactly 70) (exactly 80) (exactly 50) (exactly 67) (exactly 0) (byte (is_in_range 1 2)) (λ x1 x2 x3 x4 x5 x6. if x6 == 1 then First else Second) b0 b1 b2 b3 b4 b5 x1 x2 x3 x4 x5 left h0 h1 h2 h3 h4 h5

pub list_goes : (bs mid : List ℕ) (n : ℕ) → read any bs ≡ Got n mid → read list_reader bs ≡ read (times n two_reader) mid
unfolding list_reader
list_goes bs mid n h = bind_got any (λ n. times n two_reader) bs n mid h

pub list_stop : (bs : List ℕ) (left : ℕ) → read any bs ≡ Stop left → read list_reader bs ≡ Stop left
unfolding list_reader
list_stop bs left h = bind_stop any (λ n. times n two_reader) bs left h

pub arguments_goes : (bs mid : List ℕ) (n : ℕ) → read two_reader bs ≡ Got n mid → read arguments_reader bs ≡ read (times n two_reader) mid
unfolding arguments_reader
arguments_goes bs mid n h = bind_got two_reader (λ n. times n two_reader) bs n mid h

pub arguments_stop : (bs : List ℕ) (left : ℕ) → read two_reader bs ≡ Stop left → read arguments_reader bs ≡ Stop left
unfolding arguments_reader
arguments_stop bs left h = bind_stop two_reader (λ n. times n two_reader) bs left h

pub set_goes : (bs mid : List ℕ) (n : ℕ) → read two_reader bs ≡ Got n mid → read set_reader bs ≡ read (times n four_reader) mid
unfolding set_reader
set_goes bs mid n h = bind_got two_reader (λ n. times n four_reader) bs n mid h

pub set_stop : (bs : List ℕ) (left : ℕ) → read two_reader bs ≡ Stop left → read set_reader bs ≡ Stop left
unfolding set_reader
set_stop bs left h = bind_stop two_reader (λ n. times n four_reader) bs left h

pub type_goes : (bs mid : List ℕ) (n : ℕ) → read four_reader bs ≡ Got n mid → read type_reader bs ≡ read (times n shape_reader) mid
unfolding type_reader
type_goes bs mid n h = bind_got four_reader (λ n. times n shape_reader) bs n mid h

pub type_stop : (bs : List ℕ) (left : ℕ) → read four_reader bs ≡ Stop left → read type_reader bs ≡ Stop left
unfolding type_reader
type_stop bs left h = bind_stop four_reader (λ n. times n shape_reader) bs left h

pub table_goes : (bs mid : List ℕ) (n : ℕ) → read two_reader bs ≡ Got n mid → read table_reader bs ≡ read (times n type_reader) mid
unfolding table_reader
table_goes bs mid n h = bind_got two_reader (λ n. times n type_reader) bs n mid h

pub table_stop : (bs : List ℕ) (left : ℕ) → read two_reader bs ≡ Stop left → read table_reader bs ≡ Stop left
unfolding table_reader
table_stop bs left h = bind_stop two_reader (λ n. times n type_reader) bs left h

pub params_goes : (bs mid : List ℕ) (n : ℕ) → read two_reader bs ≡ Got n mid → read params_reader bs ≡ read (times n param_reader) mid
unfolding params_reader
params_goes bs mid n h = bind_got two_reader (λ n. times n param_reader) bs n mid h

pub params_stop : (bs : List ℕ) (left : ℕ) → read two_reader bs ≡ Stop left → read params_reader bs ≡ Stop left
unfolding params_reader
params_stop bs left h = bind_stop two_reader (λ n. times n param_reader) bs left h

pub instrs_goes : (bs mid : List ℕ) (n : ℕ) → read four_reader bs ≡ Got n mid → read instrs_reader bs ≡ read (times n instr_reader) mid
unfolding instrs_reader
instrs_goes bs mid n h = bind_got four_reader (λ n. times n instr_reader) bs n mid h

pub instrs_stop : (bs : List ℕ) (left : ℕ) → read four_reader bs ≡ Stop left → read instrs_reader bs ≡ Stop left
unfolding instrs_reader
instrs_stop bs left h = bind_stop four_reader (λ n. times n instr_reader) bs left h

pub labels_goes : (registers : ℕ) (bs mid : List ℕ) (n : ℕ) → read four_reader bs ≡ Got n mid → read (labels_reader registers) bs ≡ read (times n (label_reader registers)) mid
unfolding labels_reader
labels_goes registers bs mid n h = bind_got four_reader (λ n. times n (label_reader registers)) bs n mid h

pub labels_stop : (registers : ℕ) (bs : List ℕ) (left : ℕ) → read four_reader bs ≡ Stop left → read (labels_reader registers) bs ≡ Stop left
unfolding labels_reader
labels_stop registers bs left h = bind_stop four_reader (λ n. times n (label_reader registers)) bs left h

pub functions_goes : (version : Version) (bs mid : List ℕ) (n : ℕ) → read two_reader bs ≡ Got n mid → read (functions_reader version) bs ≡ read (times n (function_reader version)) mid
unfolding functions_reader
functions_goes version bs mid n h = bind_got two_reader (λ n. times n (function_reader version)) bs n mid h

pub functions_stop : (version : Version) (bs : List ℕ) (left : ℕ) → read two_reader bs ≡ Stop left → read (functions_reader version) bs ≡ Stop left
unfolding functions_reader
functions_stop version bs left h = bind_stop two_reader (λ n. times n (function_reader version)) bs left h

pub credits_goes : (bs mid : List ℕ) (n : ℕ) → read (byte (is_in_range 0 16)) bs ≡ Got n mid → read (credits_reader Second) bs ≡ read (times n size_reader) mid
unfolding credits_reader
credits_goes bs mid n h = bind_got (byte (is_in_range 0 16)) (λ n. times n size_reader) bs n mid h

pub credits_stop : (bs : List ℕ) (left : ℕ) → read (byte (is_in_range 0 16)) bs ≡ Stop left → read (credits_reader Second) bs ≡ Stop left
unfolding credits_reader
credits_stop bs left h = bind_stop (byte (is_in_range 0 16)) (λ n. times n size_reader) bs left h

pub credits_none : (bs : List ℕ) → read (credits_reader First) bs ≡ Got [] bs
unfolding credits_reader
credits_none bs = refl

pub size_is : (bs : List ℕ) → read size_reader bs ≡ read (byte (is_in_range 1 16)) bs
unfolding size_reader
size_is bs = refl

-- a label
abbrev label_of : ℕ → List Kind → LabelMap
label_of at kinds = record { at = at; kinds = kinds }

pub label_got : (registers : ℕ) (b0 b1 b2 : List ℕ) (at : ℕ) (kinds : List Kind) → read four_reader b0 ≡ Got at b1 → read (times registers kind_reader) b1 ≡ Got kinds b2 → read (label_reader registers) b0 ≡ Got (label_of at kinds) b2
unfolding label_reader
label_got registers b0 b1 b2 at kinds h0 h1 = got2 four_reader (times registers kind_reader) label_of b0 b1 b2 at kinds h0 h1

pub label_stop1 : (registers : ℕ) (b0 : List ℕ) (left : ℕ) → read four_reader b0 ≡ Stop left → read (label_reader registers) b0 ≡ Stop left
unfolding label_reader
label_stop1 registers b0 left h0 = stop2_1 four_reader (times registers kind_reader) label_of b0 left h0

pub label_stop2 : (registers : ℕ) (b0 b1 : List ℕ) (at : ℕ) (left : ℕ) → read four_reader b0 ≡ Got at b1 → read (times registers kind_reader) b1 ≡ Stop left → read (label_reader registers) b0 ≡ Stop left
unfolding label_reader
label_stop2 registers b0 b1 at left h0 h1 = stop2_2 four_reader (times registers kind_reader) label_of b0 b1 at left h0 h1

-- where a borrowed word came from
pub from_none : (b0 b1 b2 : List ℕ) (z : ℕ) → read register_reader b0 ≡ Got None b1 → read (byte (is_in_range 0 0)) b1 ≡ Got z b2 → read from_reader b0 ≡ Got None b2
unfolding from_reader
from_none b0 b1 b2 z h0 h1 = bind_got register_reader from_body b0 None b1 h0 ∙ bind_got (byte (is_in_range 0 0)) (λ z. Give None) b1 z b2 h1

pub from_field : (b0 b1 b2 : List ℕ) (r field : ℕ) → read register_reader b0 ≡ Got (Some r) b1 → read any b1 ≡ Got field b2 → read from_reader b0 ≡ Got (Some (record { register = r; field = field })) b2
unfolding from_reader
from_field b0 b1 b2 r field h0 h1 = bind_got register_reader from_body b0 (Some r) b1 h0 ∙ bind_got any (λ field. Give (Some (record { register = r; field = field }))) b1 field b2 h1

pub from_stop1 : (b0 : List ℕ) (left : ℕ) → read register_reader b0 ≡ Stop left → read from_reader b0 ≡ Stop left
unfolding from_reader
from_stop1 b0 left h0 = bind_stop register_reader from_body b0 left h0

pub from_stop2 : (b0 b1 : List ℕ) (left : ℕ) → read register_reader b0 ≡ Got None b1 → read (byte (is_in_range 0 0)) b1 ≡ Stop left → read from_reader b0 ≡ Stop left
unfolding from_reader
from_stop2 b0 b1 left h0 h1 = bind_got register_reader from_body b0 None b1 h0 ∙ bind_stop (byte (is_in_range 0 0)) (λ z. Give None) b1 left h1

pub from_stop3 : (b0 b1 : List ℕ) (r left : ℕ) → read register_reader b0 ≡ Got (Some r) b1 → read any b1 ≡ Stop left → read from_reader b0 ≡ Stop left
unfolding from_reader
from_stop3 b0 b1 r left h0 h1 = bind_got register_reader from_body b0 (Some r) b1 h0 ∙ bind_stop any (λ field. Give (Some (record { register = r; field = field }))) b1 left h1

-- kinds and instructions, by their tags
pub kind_gone : (b0 b1 : List ℕ) (tag : ℕ) → read (byte (is_in_range 0 4)) b0 ≡ Got tag b1 → tag ≡ 0 → read kind_reader b0 ≡ Got K.Gone b1
unfolding kind_reader
kind_gone b0 b1 tag h e = bind_got (byte (is_in_range 0 4)) kind_body b0 tag b1 h ∙ ap (λ tag. read (kind_body tag) b1) e

pub kind_owned : (b0 b1 : List ℕ) (tag : ℕ) → read (byte (is_in_range 0 4)) b0 ≡ Got tag b1 → tag ≡ 1 → read kind_reader b0 ≡ read owned_reader b1
unfolding kind_reader
kind_owned b0 b1 tag h e = bind_got (byte (is_in_range 0 4)) kind_body b0 tag b1 h ∙ ap (λ tag. read (kind_body tag) b1) e

pub kind_lent : (b0 b1 : List ℕ) (tag : ℕ) → read (byte (is_in_range 0 4)) b0 ≡ Got tag b1 → tag ≡ 2 → read kind_reader b0 ≡ read lent_reader b1
unfolding kind_reader
kind_lent b0 b1 tag h e = bind_got (byte (is_in_range 0 4)) kind_body b0 tag b1 h ∙ ap (λ tag. read (kind_body tag) b1) e

pub kind_scalar : (b0 b1 : List ℕ) (tag : ℕ) → read (byte (is_in_range 0 4)) b0 ≡ Got tag b1 → tag ≡ 3 → read kind_reader b0 ≡ read scalar_reader b1
unfolding kind_reader
kind_scalar b0 b1 tag h e = bind_got (byte (is_in_range 0 4)) kind_body b0 tag b1 h ∙ ap (λ tag. read (kind_body tag) b1) e

pub kind_credit : (b0 b1 : List ℕ) (tag : ℕ) → read (byte (is_in_range 0 4)) b0 ≡ Got tag b1 → tag ≢ 0 → tag ≢ 1 → tag ≢ 2 → tag ≢ 3 → read kind_reader b0 ≡ read credit_reader b1
unfolding kind_reader
kind_credit b0 b1 tag h e f g i = bind_got (byte (is_in_range 0 4)) kind_body b0 tag b1 h ∙ ap (λ r. read r b1) (kind_last tag e f g i)

pub kind_stop : (b0 : List ℕ) (left : ℕ) → read (byte (is_in_range 0 4)) b0 ≡ Stop left → read kind_reader b0 ≡ Stop left
unfolding kind_reader
kind_stop b0 left h = bind_stop (byte (is_in_range 0 4)) kind_body b0 left h

pub instr_const : (b0 b1 : List ℕ) (op : ℕ) → read (byte (is_in_range 1 15)) b0 ≡ Got op b1 → op ≡ 1 → read instr_reader b0 ≡ read const_reader b1
unfolding instr_reader
instr_const b0 b1 op h e = bind_got (byte (is_in_range 1 15)) instr_body b0 op b1 h ∙ ap (λ op. read (instr_body op) b1) e

pub instr_atom : (b0 b1 : List ℕ) (op : ℕ) → read (byte (is_in_range 1 15)) b0 ≡ Got op b1 → op ≡ 2 → read instr_reader b0 ≡ read atom_reader b1
unfolding instr_reader
instr_atom b0 b1 op h e = bind_got (byte (is_in_range 1 15)) instr_body b0 op b1 h ∙ ap (λ op. read (instr_body op) b1) e

pub instr_move : (b0 b1 : List ℕ) (op : ℕ) → read (byte (is_in_range 1 15)) b0 ≡ Got op b1 → op ≡ 3 → read instr_reader b0 ≡ read move_reader b1
unfolding instr_reader
instr_move b0 b1 op h e = bind_got (byte (is_in_range 1 15)) instr_body b0 op b1 h ∙ ap (λ op. read (instr_body op) b1) e

pub instr_arith : (b0 b1 : List ℕ) (op : ℕ) → read (byte (is_in_range 1 15)) b0 ≡ Got op b1 → op ≡ 4 → read instr_reader b0 ≡ read arith_reader b1
unfolding instr_reader
instr_arith b0 b1 op h e = bind_got (byte (is_in_range 1 15)) instr_body b0 op b1 h ∙ ap (λ op. read (instr_body op) b1) e

pub instr_test : (b0 b1 : List ℕ) (op : ℕ) → read (byte (is_in_range 1 15)) b0 ≡ Got op b1 → op ≡ 5 → read instr_reader b0 ≡ read test_reader b1
unfolding instr_reader
instr_test b0 b1 op h e = bind_got (byte (is_in_range 1 15)) instr_body b0 op b1 h ∙ ap (λ op. read (instr_body op) b1) e

pub instr_test_int : (b0 b1 : List ℕ) (op : ℕ) → read (byte (is_in_range 1 15)) b0 ≡ Got op b1 → op ≡ 6 → read instr_reader b0 ≡ read test_int_reader b1
unfolding instr_reader
instr_test_int b0 b1 op h e = bind_got (byte (is_in_range 1 15)) instr_body b0 op b1 h ∙ ap (λ op. read (instr_body op) b1) e

pub instr_peek : (b0 b1 : List ℕ) (op : ℕ) → read (byte (is_in_range 1 15)) b0 ≡ Got op b1 → op ≡ 7 → read instr_reader b0 ≡ read peek_reader b1
unfolding instr_reader
instr_peek b0 b1 op h e = bind_got (byte (is_in_range 1 15)) instr_body b0 op b1 h ∙ ap (λ op. read (instr_body op) b1) e

pub instr_take : (b0 b1 : List ℕ) (op : ℕ) → read (byte (is_in_range 1 15)) b0 ≡ Got op b1 → op ≡ 8 → read instr_reader b0 ≡ read take_reader b1
unfolding instr_reader
instr_take b0 b1 op h e = bind_got (byte (is_in_range 1 15)) instr_body b0 op b1 h ∙ ap (λ op. read (instr_body op) b1) e

pub instr_put : (b0 b1 : List ℕ) (op : ℕ) → read (byte (is_in_range 1 15)) b0 ≡ Got op b1 → op ≡ 9 → read instr_reader b0 ≡ read put_reader b1
unfolding instr_reader
instr_put b0 b1 op h e = bind_got (byte (is_in_range 1 15)) instr_body b0 op b1 h ∙ ap (λ op. read (instr_body op) b1) e

pub instr_drop : (b0 b1 : List ℕ) (op : ℕ) → read (byte (is_in_range 1 15)) b0 ≡ Got op b1 → op ≡ 10 → read instr_reader b0 ≡ read drop_reader b1
unfolding instr_reader
instr_drop b0 b1 op h e = bind_got (byte (is_in_range 1 15)) instr_body b0 op b1 h ∙ ap (λ op. read (instr_body op) b1) e

pub instr_free : (b0 b1 : List ℕ) (op : ℕ) → read (byte (is_in_range 1 15)) b0 ≡ Got op b1 → op ≡ 11 → read instr_reader b0 ≡ read free_reader b1
unfolding instr_reader
instr_free b0 b1 op h e = bind_got (byte (is_in_range 1 15)) instr_body b0 op b1 h ∙ ap (λ op. read (instr_body op) b1) e

pub instr_call : (b0 b1 : List ℕ) (op : ℕ) → read (byte (is_in_range 1 15)) b0 ≡ Got op b1 → op ≡ 12 → read instr_reader b0 ≡ read call_reader b1
unfolding instr_reader
instr_call b0 b1 op h e = bind_got (byte (is_in_range 1 15)) instr_body b0 op b1 h ∙ ap (λ op. read (instr_body op) b1) e

pub instr_tail : (b0 b1 : List ℕ) (op : ℕ) → read (byte (is_in_range 1 15)) b0 ≡ Got op b1 → op ≡ 13 → read instr_reader b0 ≡ read tail_reader b1
unfolding instr_reader
instr_tail b0 b1 op h e = bind_got (byte (is_in_range 1 15)) instr_body b0 op b1 h ∙ ap (λ op. read (instr_body op) b1) e

pub instr_ret : (b0 b1 : List ℕ) (op : ℕ) → read (byte (is_in_range 1 15)) b0 ≡ Got op b1 → op ≡ 14 → read instr_reader b0 ≡ read ret_reader b1
unfolding instr_reader
instr_ret b0 b1 op h e = bind_got (byte (is_in_range 1 15)) instr_body b0 op b1 h ∙ ap (λ op. read (instr_body op) b1) e

pub instr_jump : (b0 b1 : List ℕ) (op : ℕ) → read (byte (is_in_range 1 15)) b0 ≡ Got op b1 → op ≢ 1 → op ≢ 2 → op ≢ 3 → op ≢ 4 → op ≢ 5 → op ≢ 6 → op ≢ 7 → op ≢ 8 → op ≢ 9 → op ≢ 10 → op ≢ 11 → op ≢ 12 → op ≢ 13 → op ≢ 14 → read instr_reader b0 ≡ read jump_reader b1
unfolding instr_reader
instr_jump b0 b1 op h a b c d e f g i j k l m n o = bind_got (byte (is_in_range 1 15)) instr_body b0 op b1 h ∙ ap (λ r. read r b1) (instr_last op a b c d e f g i j k l m n o)

pub instr_stop : (b0 : List ℕ) (left : ℕ) → read (byte (is_in_range 1 15)) b0 ≡ Stop left → read instr_reader b0 ≡ Stop left
unfolding instr_reader
instr_stop b0 left h = bind_stop (byte (is_in_range 1 15)) instr_body b0 left h

-- names
abbrev upper_rest : ℕ → ℕ → Reader (List ℕ)
upper_rest n b = times (n - 1) (byte is_name_byte) >>= λ bs. Give (b ∷ bs)

abbrev upper_body : ℕ → Reader (List ℕ)
upper_body n = byte is_upper >>= upper_rest n

pub upper_goes : (b0 b1 b2 : List ℕ) (n b : ℕ) → read length_reader b0 ≡ Got n b1 → read (byte is_upper) b1 ≡ Got b b2 → read upper_name_reader b0 ≡ with_front (b ∷ []) (read (times (n - 1) (byte is_name_byte)) b2)
unfolding upper_name_reader
upper_goes b0 b1 b2 n b h0 h1 =
    bind_got length_reader upper_body b0 n b1 h0 ∙ bind_got (byte is_upper) (upper_rest n) b1 b b2 h1
    ∙ read_bind (times (n - 1) (byte is_name_byte)) (λ bs. Give (b ∷ bs)) b2

pub upper_stop1 : (b0 : List ℕ) (left : ℕ) → read length_reader b0 ≡ Stop left → read upper_name_reader b0 ≡ Stop left
unfolding upper_name_reader
upper_stop1 b0 left h0 = bind_stop length_reader upper_body b0 left h0

pub upper_stop2 : (b0 b1 : List ℕ) (n left : ℕ) → read length_reader b0 ≡ Got n b1 → read (byte is_upper) b1 ≡ Stop left → read upper_name_reader b0 ≡ Stop left
unfolding upper_name_reader
upper_stop2 b0 b1 n left h0 h1 = bind_got length_reader upper_body b0 n b1 h0 ∙ bind_stop (byte is_upper) (upper_rest n) b1 left h1

pub name_goes : (b0 b1 : List ℕ) (n : ℕ) → read four_reader b0 ≡ Got n b1 → read function_name_reader b0 ≡ read (name_on n []) b1
unfolding function_name_reader
name_goes b0 b1 n h = bind_got four_reader (λ n. name_on n []) b0 n b1 h

pub name_stop : (b0 : List ℕ) (left : ℕ) → read four_reader b0 ≡ Stop left → read function_name_reader b0 ≡ Stop left
unfolding function_name_reader
name_stop b0 left h = bind_stop four_reader (λ n. name_on n []) b0 left h

-- the version, by its second byte
pub magic_first : (b0 b1 b2 b3 b4 b5 b6 : List ℕ) (x1 x2 x3 x4 x5 x6 : ℕ) → read (exactly 70) b0 ≡ Got x1 b1 → read (exactly 80) b1 ≡ Got x2 b2 → read (exactly 50) b2 ≡ Got x3 b3 → read (exactly 67) b3 ≡ Got x4 b4 → read (exactly 0) b4 ≡ Got x5 b5 → read (byte (is_in_range 1 2)) b5 ≡ Got x6 b6 → x6 ≡ 1 → read magic_reader b0 ≡ Got First b6
magic_first b0 b1 b2 b3 b4 b5 b6 x1 x2 x3 x4 x5 x6 h0 h1 h2 h3 h4 h5 e = magic_got b0 b1 b2 b3 b4 b5 b6 x1 x2 x3 x4 x5 x6 h0 h1 h2 h3 h4 h5 ∙ ap (λ t. Got (if t then First else Second) b6) (eq-eqb x6 1 e)

pub magic_second : (b0 b1 b2 b3 b4 b5 b6 : List ℕ) (x1 x2 x3 x4 x5 x6 : ℕ) → read (exactly 70) b0 ≡ Got x1 b1 → read (exactly 80) b1 ≡ Got x2 b2 → read (exactly 50) b2 ≡ Got x3 b3 → read (exactly 67) b3 ≡ Got x4 b4 → read (exactly 0) b4 ≡ Got x5 b5 → read (byte (is_in_range 1 2)) b5 ≡ Got x6 b6 → x6 ≢ 1 → read magic_reader b0 ≡ Got Second b6
magic_second b0 b1 b2 b3 b4 b5 b6 x1 x2 x3 x4 x5 x6 h0 h1 h2 h3 h4 h5 e = magic_got b0 b1 b2 b3 b4 b5 b6 x1 x2 x3 x4 x5 x6 h0 h1 h2 h3 h4 h5 ∙ ap (λ t. Got (if t then First else Second) b6) (differs x6 1 e)

-- a function
pub function_got : (v : Version) (b0 b1 b2 b3 b4 b5 b6 b7 b8 : List ℕ) (kind : CodeKind) (name : List ℕ) (params : List Param) (credits : List ℕ) (results : List ℕ) (registers : ℕ) (instrs : List Instr) (labels : List LabelMap) → read code_kind_reader b0 ≡ Got kind b1 → read function_name_reader b1 ≡ Got name b2 → read params_reader b2 ≡ Got params b3 → read (credits_reader v) b3 ≡ Got credits b4 → read list_reader b4 ≡ Got results b5 → read two_reader b5 ≡ Got registers b6 → read instrs_reader b6 ≡ Got instrs b7 → read (labels_reader registers) b7 ≡ Got labels b8 → read (function_reader v) b0 ≡ Got (record { kind = kind; name = name; params = params; credits = credits; results = results; registers = registers; instrs = instrs; labels = labels }) b8
unfolding function_reader
function_got v b0 b1 b2 b3 b4 b5 b6 b7 b8 kind name params credits results registers instrs labels h0 h1 h2 h3 h4 h5 h6 h7 =
    bind_got code_kind_reader (part1 v) b0 kind b1 h0
    ∙ bind_got function_name_reader (part2 v kind) b1 name b2 h1
    ∙ bind_got params_reader (part3 v kind name) b2 params b3 h2
    ∙ bind_got (credits_reader v) (part4 v kind name params) b3 credits b4 h3
    ∙ bind_got list_reader (part5 v kind name params credits) b4 results b5 h4
    ∙ bind_got two_reader (part6 v kind name params credits results) b5 registers b6 h5
    ∙ bind_got instrs_reader (part7 v kind name params credits results registers) b6 instrs b7 h6
    ∙ bind_got (labels_reader registers) (part8 v kind name params credits results registers instrs) b7 labels b8 h7

pub function_stop1 : (v : Version) (b0 : List ℕ) (left : ℕ) → read code_kind_reader b0 ≡ Stop left → read (function_reader v) b0 ≡ Stop left
unfolding function_reader
function_stop1 v b0 left h0 =
    bind_stop code_kind_reader (part1 v) b0 left h0

pub function_stop2 : (v : Version) (b0 b1 : List ℕ) (kind : CodeKind) (left : ℕ) → read code_kind_reader b0 ≡ Got kind b1 → read function_name_reader b1 ≡ Stop left → read (function_reader v) b0 ≡ Stop left
unfolding function_reader
function_stop2 v b0 b1 kind left h0 h1 =
    bind_got code_kind_reader (part1 v) b0 kind b1 h0
    ∙ bind_stop function_name_reader (part2 v kind) b1 left h1

pub function_stop3 : (v : Version) (b0 b1 b2 : List ℕ) (kind : CodeKind) (name : List ℕ) (left : ℕ) → read code_kind_reader b0 ≡ Got kind b1 → read function_name_reader b1 ≡ Got name b2 → read params_reader b2 ≡ Stop left → read (function_reader v) b0 ≡ Stop left
unfolding function_reader
function_stop3 v b0 b1 b2 kind name left h0 h1 h2 =
    bind_got code_kind_reader (part1 v) b0 kind b1 h0
    ∙ bind_got function_name_reader (part2 v kind) b1 name b2 h1
    ∙ bind_stop params_reader (part3 v kind name) b2 left h2

pub function_stop4 : (v : Version) (b0 b1 b2 b3 : List ℕ) (kind : CodeKind) (name : List ℕ) (params : List Param) (left : ℕ) → read code_kind_reader b0 ≡ Got kind b1 → read function_name_reader b1 ≡ Got name b2 → read params_reader b2 ≡ Got params b3 → read (credits_reader v) b3 ≡ Stop left → read (function_reader v) b0 ≡ Stop left
unfolding function_reader
function_stop4 v b0 b1 b2 b3 kind name params left h0 h1 h2 h3 =
    bind_got code_kind_reader (part1 v) b0 kind b1 h0
    ∙ bind_got function_name_reader (part2 v kind) b1 name b2 h1
    ∙ bind_got params_reader (part3 v kind name) b2 params b3 h2
    ∙ bind_stop (credits_reader v) (part4 v kind name params) b3 left h3

pub function_stop5 : (v : Version) (b0 b1 b2 b3 b4 : List ℕ) (kind : CodeKind) (name : List ℕ) (params : List Param) (credits : List ℕ) (left : ℕ) → read code_kind_reader b0 ≡ Got kind b1 → read function_name_reader b1 ≡ Got name b2 → read params_reader b2 ≡ Got params b3 → read (credits_reader v) b3 ≡ Got credits b4 → read list_reader b4 ≡ Stop left → read (function_reader v) b0 ≡ Stop left
unfolding function_reader
function_stop5 v b0 b1 b2 b3 b4 kind name params credits left h0 h1 h2 h3 h4 =
    bind_got code_kind_reader (part1 v) b0 kind b1 h0
    ∙ bind_got function_name_reader (part2 v kind) b1 name b2 h1
    ∙ bind_got params_reader (part3 v kind name) b2 params b3 h2
    ∙ bind_got (credits_reader v) (part4 v kind name params) b3 credits b4 h3
    ∙ bind_stop list_reader (part5 v kind name params credits) b4 left h4

pub function_stop6 : (v : Version) (b0 b1 b2 b3 b4 b5 : List ℕ) (kind : CodeKind) (name : List ℕ) (params : List Param) (credits : List ℕ) (results : List ℕ) (left : ℕ) → read code_kind_reader b0 ≡ Got kind b1 → read function_name_reader b1 ≡ Got name b2 → read params_reader b2 ≡ Got params b3 → read (credits_reader v) b3 ≡ Got credits b4 → read list_reader b4 ≡ Got results b5 → read two_reader b5 ≡ Stop left → read (function_reader v) b0 ≡ Stop left
unfolding function_reader
function_stop6 v b0 b1 b2 b3 b4 b5 kind name params credits results left h0 h1 h2 h3 h4 h5 =
    bind_got code_kind_reader (part1 v) b0 kind b1 h0
    ∙ bind_got function_name_reader (part2 v kind) b1 name b2 h1
    ∙ bind_got params_reader (part3 v kind name) b2 params b3 h2
    ∙ bind_got (credits_reader v) (part4 v kind name params) b3 credits b4 h3
    ∙ bind_got list_reader (part5 v kind name params credits) b4 results b5 h4
    ∙ bind_stop two_reader (part6 v kind name params credits results) b5 left h5

pub function_stop7 : (v : Version) (b0 b1 b2 b3 b4 b5 b6 : List ℕ) (kind : CodeKind) (name : List ℕ) (params : List Param) (credits : List ℕ) (results : List ℕ) (registers : ℕ) (left : ℕ) → read code_kind_reader b0 ≡ Got kind b1 → read function_name_reader b1 ≡ Got name b2 → read params_reader b2 ≡ Got params b3 → read (credits_reader v) b3 ≡ Got credits b4 → read list_reader b4 ≡ Got results b5 → read two_reader b5 ≡ Got registers b6 → read instrs_reader b6 ≡ Stop left → read (function_reader v) b0 ≡ Stop left
unfolding function_reader
function_stop7 v b0 b1 b2 b3 b4 b5 b6 kind name params credits results registers left h0 h1 h2 h3 h4 h5 h6 =
    bind_got code_kind_reader (part1 v) b0 kind b1 h0
    ∙ bind_got function_name_reader (part2 v kind) b1 name b2 h1
    ∙ bind_got params_reader (part3 v kind name) b2 params b3 h2
    ∙ bind_got (credits_reader v) (part4 v kind name params) b3 credits b4 h3
    ∙ bind_got list_reader (part5 v kind name params credits) b4 results b5 h4
    ∙ bind_got two_reader (part6 v kind name params credits results) b5 registers b6 h5
    ∙ bind_stop instrs_reader (part7 v kind name params credits results registers) b6 left h6

pub function_stop8 : (v : Version) (b0 b1 b2 b3 b4 b5 b6 b7 : List ℕ) (kind : CodeKind) (name : List ℕ) (params : List Param) (credits : List ℕ) (results : List ℕ) (registers : ℕ) (instrs : List Instr) (left : ℕ) → read code_kind_reader b0 ≡ Got kind b1 → read function_name_reader b1 ≡ Got name b2 → read params_reader b2 ≡ Got params b3 → read (credits_reader v) b3 ≡ Got credits b4 → read list_reader b4 ≡ Got results b5 → read two_reader b5 ≡ Got registers b6 → read instrs_reader b6 ≡ Got instrs b7 → read (labels_reader registers) b7 ≡ Stop left → read (function_reader v) b0 ≡ Stop left
unfolding function_reader
function_stop8 v b0 b1 b2 b3 b4 b5 b6 b7 kind name params credits results registers instrs left h0 h1 h2 h3 h4 h5 h6 h7 =
    bind_got code_kind_reader (part1 v) b0 kind b1 h0
    ∙ bind_got function_name_reader (part2 v kind) b1 name b2 h1
    ∙ bind_got params_reader (part3 v kind name) b2 params b3 h2
    ∙ bind_got (credits_reader v) (part4 v kind name params) b3 credits b4 h3
    ∙ bind_got list_reader (part5 v kind name params credits) b4 results b5 h4
    ∙ bind_got two_reader (part6 v kind name params credits results) b5 registers b6 h5
    ∙ bind_got instrs_reader (part7 v kind name params credits results registers) b6 instrs b7 h6
    ∙ bind_stop (labels_reader registers) (part8 v kind name params credits results registers instrs) b7 left h7

-- the whole
abbrev code_rest : Version → Table → Reader (Version × PlainCode)
code_rest v types = functions_reader v >>= λ functions. Give (v, record { types = types; functions = functions })

abbrev code_body : Version → Reader (Version × PlainCode)
code_body v = table_reader >>= code_rest v

abbrev code_of : Version → Table → List PlainFunction → Version × PlainCode
code_of v types functions = (v, record { types = types; functions = functions })

pub code_got : (b0 b1 b2 b3 : List ℕ) (v : Version) (types : Table) (functions : List PlainFunction) → read magic_reader b0 ≡ Got v b1 → read table_reader b1 ≡ Got types b2 → read (functions_reader v) b2 ≡ Got functions b3 → read code_reader b0 ≡ Got (code_of v types functions) b3
unfolding code_reader
code_got b0 b1 b2 b3 v types functions h0 h1 h2 =
    bind_got magic_reader code_body b0 v b1 h0 ∙ bind_got table_reader (code_rest v) b1 types b2 h1
    ∙ bind_got (functions_reader v) (λ functions. Give (code_of v types functions)) b2 functions b3 h2

pub code_stop1 : (b0 : List ℕ) (left : ℕ) → read magic_reader b0 ≡ Stop left → read code_reader b0 ≡ Stop left
unfolding code_reader
code_stop1 b0 left h0 = bind_stop magic_reader code_body b0 left h0

pub code_stop2 : (b0 b1 : List ℕ) (v : Version) (left : ℕ) → read magic_reader b0 ≡ Got v b1 → read table_reader b1 ≡ Stop left → read code_reader b0 ≡ Stop left
unfolding code_reader
code_stop2 b0 b1 v left h0 h1 = bind_got magic_reader code_body b0 v b1 h0 ∙ bind_stop table_reader (code_rest v) b1 left h1

pub code_stop3 : (b0 b1 b2 : List ℕ) (v : Version) (types : Table) (left : ℕ) → read magic_reader b0 ≡ Got v b1 → read table_reader b1 ≡ Got types b2 → read (functions_reader v) b2 ≡ Stop left → read code_reader b0 ≡ Stop left
unfolding code_reader
code_stop3 b0 b1 b2 v types left h0 h1 h2 =
    bind_got magic_reader code_body b0 v b1 h0 ∙ bind_got table_reader (code_rest v) b1 types b2 h1
    ∙ bind_stop (functions_reader v) (λ functions. Give (code_of v types functions)) b2 left h2

-- an int, as it comes back of its eight bytes
any_small : (bs rest : List ℕ) (b : ℕ) → read any bs ≡ Got b rest → b < 256
unfolding byte
any_small [] rest b e = cc
any_small (c ∷ bs) rest b e = small (is_byte c) refl e
  where
    small : (t : Bool) → is_byte c ≡ t → (if t then Got c bs else Stop (suc (length bs))) ≡ Got b rest → b < 256
    small true h e = let k : c ≡ b = cc in subst (λ b. b < 256) k (ltb-true c 256 h)
    small false h e = cc

pub eight_int : (b0 b1 b2 b3 b4 b5 b6 b7 b8 : List ℕ) (x1 x2 x3 x4 x5 x6 x7 x8 : ℕ) (r : ℤ) → read any b0 ≡ Got x1 b1 → read any b1 ≡ Got x2 b2 → read any b2 ≡ Got x3 b3 → read any b3 ≡ Got x4 b4 → read any b4 ≡ Got x5 b5 → read any b5 ≡ Got x6 b6 → read any b6 ≡ Got x7 b7 → read any b7 ≡ Got x8 b8 → r ≡ cast_signed w64 (from_be_bytes w64 (x1 ∷ x2 ∷ x3 ∷ x4 ∷ x5 ∷ x6 ∷ x7 ∷ x8 ∷ [])) → read eight_reader b0 ≡ Got (cast_signed w64 (cast_unsigned w64 r)) b8
eight_int b0 b1 b2 b3 b4 b5 b6 b7 b8 x1 x2 x3 x4 x5 x6 x7 x8 r h0 h1 h2 h3 h4 h5 h6 h7 e =
    let s0 = any_small b0 b1 x1 h0 in
    let s1 = any_small b1 b2 x2 h1 in
    let s2 = any_small b2 b3 x3 h2 in
    let s3 = any_small b3 b4 x4 h3 in
    let s4 = any_small b4 b5 x5 h4 in
    let s5 = any_small b5 b6 x6 h5 in
    let s6 = any_small b6 b7 x7 h6 in
    let s7 = any_small b7 b8 x8 h7 in
    let lt : from_be_bytes w64 (x1 ∷ x2 ∷ x3 ∷ x4 ∷ x5 ∷ x6 ∷ x7 ∷ x8 ∷ []) < 2 ^ 64 = omega arith in
    eight_got b0 b1 b2 b3 b4 b5 b6 b7 b8 x1 x2 x3 x4 x5 x6 x7 x8 h0 h1 h2 h3 h4 h5 h6 h7
    ∙ ap (λ (z : ℤ). Got z b8) (sym (ap (λ (z : ℤ). cast_signed w64 (cast_unsigned w64 z)) e ∙ ap (cast_signed w64) (of_z-to_z w64 (from_be_bytes w64 (x1 ∷ x2 ∷ x3 ∷ x4 ∷ x5 ∷ x6 ∷ x7 ∷ x8 ∷ [])) lt)))

-- the rules of each reader
pub ruleset of_two = (two_got, two_stop1, two_stop2)

pub ruleset of_four = (four_got, four_stop1, four_stop2, four_stop3, four_stop4)

pub ruleset of_eight = (eight_got, eight_stop1, eight_stop2, eight_stop3, eight_stop4, eight_stop5, eight_stop6, eight_stop7, eight_stop8)

pub ruleset of_owned = (owned_got, owned_stop1, owned_stop2)

pub ruleset of_lent = (lent_got, lent_stop1, lent_stop2, lent_stop3, lent_stop4)

pub ruleset of_scalar = (scalar_got, scalar_stop1)

pub ruleset of_credit = (credit_got, credit_stop1)

pub ruleset of_operator = (operator_got, operator_stop1)

pub ruleset of_const = (const_got, const_stop1, const_stop2)

pub ruleset of_atom = (atom_got, atom_stop1, atom_stop2, atom_stop3)

pub ruleset of_move = (move_got, move_stop1, move_stop2)

pub ruleset of_arith = (arith_got, arith_stop1, arith_stop2, arith_stop3, arith_stop4, arith_stop5, arith_stop6)

pub ruleset of_test = (test_got, test_stop1, test_stop2, test_stop3)

pub ruleset of_test_int = (test_int_got, test_int_stop1, test_int_stop2, test_int_stop3)

pub ruleset of_peek = (peek_got, peek_stop1, peek_stop2, peek_stop3)

pub ruleset of_take = (take_got, take_stop1, take_stop2)

pub ruleset of_put = (put_got, put_stop1, put_stop2, put_stop3, put_stop4)

pub ruleset of_drop = (drop_got, drop_stop1)

pub ruleset of_free = (free_got, free_stop1)

pub ruleset of_call = (call_got, call_stop1, call_stop2, call_stop3)

pub ruleset of_tail = (tail_got, tail_stop1, tail_stop2)

pub ruleset of_ret = (ret_got, ret_stop1)

pub ruleset of_jump = (jump_got, jump_stop1)

pub ruleset of_shape = (shape_got, shape_stop1, shape_stop2)

pub ruleset of_param = (param_got, param_stop1, param_stop2)

pub ruleset of_magic = (magic_stop1, magic_stop2, magic_stop3, magic_stop4, magic_stop5, magic_stop6, magic_first, magic_second)

pub ruleset of_list = (list_goes, list_stop)

pub ruleset of_arguments = (arguments_goes, arguments_stop)

pub ruleset of_set = (set_goes, set_stop)

pub ruleset of_type = (type_goes, type_stop)

pub ruleset of_table = (table_goes, table_stop)

pub ruleset of_params = (params_goes, params_stop)

pub ruleset of_instrs = (instrs_goes, instrs_stop)

pub ruleset of_labels = (labels_goes, labels_stop)

pub ruleset of_functions = (functions_goes, functions_stop)

pub ruleset of_credits = (credits_goes, credits_stop, credits_none)

pub ruleset of_size = (size_is)

pub ruleset of_label = (label_got, label_stop1, label_stop2)

pub ruleset of_from = (from_none, from_field, from_stop1, from_stop2, from_stop3)

pub ruleset of_kind = (kind_gone, kind_owned, kind_lent, kind_scalar, kind_credit, kind_stop)

pub ruleset of_instr = (instr_const, instr_atom, instr_move, instr_arith, instr_test, instr_test_int, instr_peek, instr_take, instr_put, instr_drop, instr_free, instr_call, instr_tail, instr_ret, instr_jump, instr_stop)

pub ruleset of_upper_name = (upper_goes, upper_stop1, upper_stop2)

pub ruleset of_function_name = (name_goes, name_stop)

pub ruleset of_function = (function_got, function_stop1, function_stop2, function_stop3, function_stop4, function_stop5, function_stop6, function_stop7, function_stop8)

pub ruleset of_code = (code_got, code_stop1, code_stop2, code_stop3)
