-- The reader of a code file reads just the texts of codes, and where it stops is the least bad place.
use Rattle.std.proofs.Common.{◌≡◌, ℕ, zero, suc, ◌+◌, ◌-◌, ◌<◌, ◌≤◌, List, [], ◌∷◌, ◌++◌, length, map, Option, Some, None, Bool, true, false, refl, sym, ap, ap₂, ◌∙◌, subst, arith}
use Rattle.std.specs.Prelude.{◌==◌, ◌&&◌, nat_le, if◌then◌else◌}
use Rattle.std.specs.Int.{is_in_range}
use Rattle.std.proofs.lemmas.Bool.{le-leb}
use Rattle.std.proofs.lemmas.List.{append-nil}
use Rattle.fip_language.specs.Prefix.{Begins, IsPlace}
use Rattle.fip_language.specs.Table.{Shape, Table}
use Rattle.cell_code.specs.declared.code.CodeKind.{CodeKind}
use Rattle.cell_code.specs.declared.code.CodeKind.TheVariants.{Fip, Fbip}
use Rattle.fip_base.specs.declared.plain.Param.{Param}
use Rattle.cell_code.specs.declared.code.Instr.{Instr}
use Rattle.code_file.specs.declared.tags.Version.{Version}
use Rattle.code_file.specs.declared.tags.Version.TheVariants.{First, Second}
use Rattle.cell_code.specs.Plain.{PlainFunction, PlainCode}
use Rattle.code_file.specs.Spelling.{◌+++◌, each, mark, only, one, two, four, upper_name_text, function_name_text}
use Rattle.code_file.specs.CodeText.{types_text, shape_text, type_text, table_text, code_kind_text, lent_text, param_text, params_text, credit_count_text, size_text, credits_text, instr_text, instrs_text, label_text, labels_text, function_text, functions_text, version_number, code_text, CodeText, IsFileOf}
use Rattle.code_file.specs.Reading.{Reader, Give, Byte, ◌>>=◌, Answer, Got, Stop, read, whole, read_all, byte, any, two_reader, four_reader, times, counted, list_reader, upper_name_reader, function_name_reader, shape_reader, type_reader, table_reader, code_kind_reader, param_reader, params_reader, size_reader, credits_reader, instr_reader, instrs_reader, label_reader, labels_reader, function_reader, functions_reader, exactly, magic_reader, code_reader}
use Rattle.code_file.proofs.Readers.{Takes, Alive, Front, IsField, Spells, stop_place, got_spells, spells_got, bind_takes, bind_gives, then_alive, front_join, front_split, takes1, gives1, alive1, takes2, gives2, alive2, field_counted}
use Rattle.code_file.proofs.Fields.{and_both, both_and, front_only, only_front, field_test, field_any, field_two, field_four, field_types}
use Rattle.code_file.proofs.NameFields.{field_upper_name, field_function_name}
use Rattle.code_file.proofs.Parts.{part1, part2, part3, part4, part5, part6, part7, part8}
use Rattle.code_file.proofs.Items.{tag_takes, tag_gives, tag_alive, in_range, field_label, field_instr}

abbrev pub shape_of : List ℕ → List ℕ → Shape
shape_of name fields = record { name = name; fields = fields }

shape_takes : (bs : List ℕ) (y : Shape) (rest : List ℕ) → Takes shape_reader bs y rest → Front (shape_text y) bs rest
unfolding shape_reader shape_text
shape_takes bs y rest h =
    let k = takes2 upper_name_reader upper_name_text field_upper_name list_reader types_text field_types shape_of bs y rest h in
    subst (λ (y : Shape). Front (upper_name_text y.name +++ types_text y.fields) bs rest) k.2 k.3

shape_gives : (bs : List ℕ) (y : Shape) (rest : List ℕ) → Front (shape_text y) bs rest → Takes shape_reader bs y rest
unfolding shape_reader shape_text
shape_gives bs y rest h = gives2 upper_name_reader upper_name_text field_upper_name list_reader types_text field_types shape_of y.name y.fields bs rest h

shape_alive : Alive shape_reader
unfolding shape_reader
shape_alive = alive2 upper_name_reader upper_name_text field_upper_name list_reader types_text field_types shape_of

field_shape : IsField shape_reader shape_text
field_shape = record { takes = shape_takes; gives = shape_gives; alive = shape_alive }

field_type : IsField type_reader type_text
unfolding type_reader type_text
field_type = field_counted shape_reader shape_text field_shape four_reader four field_four

field_table : IsField table_reader table_text
unfolding table_reader table_text
field_table = field_counted type_reader type_text field_type two_reader two field_two

-- one of two tags
either : (b : ℕ) → is_in_range 0 1 b ≡ true → (P : ℕ → Type 0) → P 0 → P 1 → P b
either zero e P x y = x
either (suc zero) e P x y = y
either (suc (suc b)) e P x y = let k = in_range 0 1 (suc (suc b)) e in absurd (omega (arith, k.1))

abbrev code_kind_at : ℕ → CodeKind
code_kind_at b = if b == 0 then Fip else Fbip

code_kind_takes : (bs : List ℕ) (y : CodeKind) (rest : List ℕ) → Takes code_kind_reader bs y rest → Front (code_kind_text y) bs rest
unfolding code_kind_reader
code_kind_takes bs y rest h =
    let p = tag_takes (is_in_range 0 1) (λ b. Give (code_kind_at b)) bs y rest h in
    let e = p.4 in
    subst (λ y. Front (code_kind_text y) bs rest) e.1
    (either p.0 p.2 (λ b. bs ≡ b ∷ rest → Front (code_kind_text (code_kind_at b)) bs rest) (λ q. q) (λ q. q) (p.3 ∙ ap (λ r. p.0 ∷ r) e.0))

code_kind_gives : (bs : List ℕ) (y : CodeKind) (rest : List ℕ) → Front (code_kind_text y) bs rest → Takes code_kind_reader bs y rest
unfolding code_kind_reader byte
code_kind_gives bs Fip rest h = subst (λ bs. Takes (byte (is_in_range 0 1) >>= λ b. Give (code_kind_at b)) bs Fip rest) (sym h) (refl, (refl, refl))
code_kind_gives bs Fbip rest h = subst (λ bs. Takes (byte (is_in_range 0 1) >>= λ b. Give (code_kind_at b)) bs Fbip rest) (sym h) (refl, (refl, refl))

code_kind_alive : Alive code_kind_reader
unfolding code_kind_reader
code_kind_alive = tag_alive (is_in_range 0 1) (λ b. Give (code_kind_at b)) 0 refl (λ b. tt)

field_code_kind : IsField code_kind_reader code_kind_text
field_code_kind = record { takes = code_kind_takes; gives = code_kind_gives; alive = code_kind_alive }

abbrev pub param_at : ℕ → ℕ → Param
param_at b ty = record { ty = ty; lent = b == 1 }

abbrev param_body : ℕ → Reader Param
param_body b = two_reader >>= λ ty. Give (param_at b ty)

param_takes : (bs : List ℕ) (y : Param) (rest : List ℕ) → Takes param_reader bs y rest → Front (param_text y) bs rest
unfolding param_reader param_text
param_takes bs y rest h =
    let p = tag_takes (is_in_range 0 1) param_body bs y rest h in
    let k = takes1 two_reader two field_two (param_at p.0) p.1 y rest p.4 in
    subst (λ (y : Param). Front (lent_text y.lent +++ two y.ty) bs rest) k.1
    (front_join (lent_text (p.0 == 1)) (two k.0) bs p.1 rest (either p.0 p.2 (λ b. bs ≡ b ∷ p.1 → Front (lent_text (b == 1)) bs p.1) (λ q. q) (λ q. q) p.3) k.2)

param_gives_at : (lent : Bool) (ty : ℕ) (bs rest : List ℕ) → Front (lent_text lent +++ two ty) bs rest → Takes (byte (is_in_range 0 1) >>= param_body) bs (record { ty = ty; lent = lent }) rest
param_gives_at false ty bs rest h = tag_gives (is_in_range 0 1) param_body 0 (two ty) bs (record { ty = ty; lent = false }) rest refl h (λ mid f. gives1 two_reader two field_two (param_at 0) ty mid rest f)
param_gives_at true ty bs rest h = tag_gives (is_in_range 0 1) param_body 1 (two ty) bs (record { ty = ty; lent = true }) rest refl h (λ mid f. gives1 two_reader two field_two (param_at 1) ty mid rest f)

param_gives : (bs : List ℕ) (y : Param) (rest : List ℕ) → Front (param_text y) bs rest → Takes param_reader bs y rest
unfolding param_reader param_text
param_gives bs y rest h = param_gives_at y.lent y.ty bs rest h

param_alive : Alive param_reader
unfolding param_reader
param_alive = tag_alive (is_in_range 0 1) param_body 0 refl (λ b. alive1 two_reader two field_two (param_at b))

field_param : IsField param_reader param_text
field_param = record { takes = param_takes; gives = param_gives; alive = param_alive }

field_params : IsField params_reader params_text
unfolding params_reader params_text
field_params = field_counted param_reader param_text field_param two_reader two field_two

-- the same texts in other words
field_same : {A : Type 0} → (r : Reader A) (s t : A → Option (List ℕ)) → ((x : A) → s x ≡ t x) → IsField r s → IsField r t
field_same r s t e f = record {
  takes = λ bs x rest h. subst (λ o. Front o bs rest) (e x) (f.takes bs x rest h);
  gives = λ bs x rest h. f.gives bs x rest (subst (λ o. Front o bs rest) (sym (e x)) h);
  alive = f.alive;
}

field_size : IsField size_reader size_text
unfolding size_reader size_text
field_size = field_test (is_in_range 1 16) (1, refl)

field_credit_count : IsField (byte (is_in_range 0 16)) credit_count_text
unfolding credit_count_text
field_credit_count = field_same (byte (is_in_range 0 16)) (λ n. only (is_in_range 0 16 n) (mark n)) (λ n. only (nat_le n 16) (mark n))
    (λ n. ap (λ t. only (t && nat_le n 16) (mark n)) (le-leb 0 n (omega arith))) (field_test (is_in_range 0 16) (0, refl))

credits_takes : (v : Version) (bs y rest : List ℕ) → Takes (credits_reader v) bs y rest → Front (credits_text v y) bs rest
unfolding credits_reader credits_text
credits_takes First bs y rest h = subst (λ y. Front (credits_text First y) bs rest) h.1 h.0
credits_takes Second bs y rest h = (field_counted size_reader size_text field_size (byte (is_in_range 0 16)) credit_count_text field_credit_count).takes bs y rest h

credits_gives : (v : Version) (bs y rest : List ℕ) → Front (credits_text v y) bs rest → Takes (credits_reader v) bs y rest
unfolding credits_reader credits_text
credits_gives First bs [] rest h = (h, refl)
credits_gives First bs (x ∷ y) rest h = absurd h
credits_gives Second bs y rest h = (field_counted size_reader size_text field_size (byte (is_in_range 0 16)) credit_count_text field_credit_count).gives bs y rest h

credits_alive : (v : Version) → Alive (credits_reader v)
unfolding credits_reader
credits_alive First = tt
credits_alive Second = (field_counted size_reader size_text field_size (byte (is_in_range 0 16)) credit_count_text field_credit_count).alive

field_credits : (v : Version) → IsField (credits_reader v) (credits_text v)
field_credits v = record { takes = credits_takes v; gives = credits_gives v; alive = credits_alive v }

field_instrs : IsField instrs_reader instrs_text
unfolding instrs_reader instrs_text
field_instrs = field_counted instr_reader instr_text field_instr four_reader four field_four

field_labels : (registers : ℕ) → IsField (labels_reader registers) (labels_text registers)
unfolding labels_reader labels_text
field_labels registers = field_counted (label_reader registers) (label_text registers) (field_label registers) four_reader four field_four

-- a function
function_takes : (v : Version) (bs : List ℕ) (y : PlainFunction) (rest : List ℕ) → Takes (function_reader v) bs y rest → Front (function_text v y) bs rest
unfolding function_reader function_text
function_takes v bs y rest h =
    let p0 = bind_takes code_kind_reader (part1 v) bs y rest h in
    let p1 = bind_takes function_name_reader (part2 v p0.0) p0.1 y rest p0.3 in
    let p2 = bind_takes params_reader (part3 v p0.0 p1.0) p1.1 y rest p1.3 in
    let p3 = bind_takes (credits_reader v) (part4 v p0.0 p1.0 p2.0) p2.1 y rest p2.3 in
    let p4 = bind_takes list_reader (part5 v p0.0 p1.0 p2.0 p3.0) p3.1 y rest p3.3 in
    let p5 = bind_takes two_reader (part6 v p0.0 p1.0 p2.0 p3.0 p4.0) p4.1 y rest p4.3 in
    let p6 = bind_takes instrs_reader (part7 v p0.0 p1.0 p2.0 p3.0 p4.0 p5.0) p5.1 y rest p5.3 in
    let p7 = bind_takes (labels_reader p5.0) (part8 v p0.0 p1.0 p2.0 p3.0 p4.0 p5.0 p6.0) p6.1 y rest p6.3 in
    let e = p7.3 in
    let last : Front (labels_text p5.0 p7.0) p6.1 rest = subst (λ m. Front (labels_text p5.0 p7.0) p6.1 m) e.0 ((field_labels p5.0).takes p6.1 p7.0 p7.1 p7.2) in
    let from6 = front_join (instrs_text p6.0) (labels_text p5.0 p7.0) p5.1 p6.1 rest (field_instrs.takes p5.1 p6.0 p6.1 p6.2) last in
    let from5 = front_join (two p5.0) (instrs_text p6.0 +++ labels_text p5.0 p7.0) p4.1 p5.1 rest (field_two.takes p4.1 p5.0 p5.1 p5.2) from6 in
    let from4 = front_join (types_text p4.0) (two p5.0 +++ instrs_text p6.0 +++ labels_text p5.0 p7.0) p3.1 p4.1 rest (field_types.takes p3.1 p4.0 p4.1 p4.2) from5 in
    let from3 = front_join (credits_text v p3.0) (types_text p4.0 +++ two p5.0 +++ instrs_text p6.0 +++ labels_text p5.0 p7.0) p2.1 p3.1 rest ((field_credits v).takes p2.1 p3.0 p3.1 p3.2) from4 in
    let from2 = front_join (params_text p2.0) (credits_text v p3.0 +++ types_text p4.0 +++ two p5.0 +++ instrs_text p6.0 +++ labels_text p5.0 p7.0) p1.1 p2.1 rest (field_params.takes p1.1 p2.0 p2.1 p2.2) from3 in
    let from1 = front_join (function_name_text p1.0) (params_text p2.0 +++ credits_text v p3.0 +++ types_text p4.0 +++ two p5.0 +++ instrs_text p6.0 +++ labels_text p5.0 p7.0) p0.1 p1.1 rest (field_function_name.takes p0.1 p1.0 p1.1 p1.2) from2 in
    let from0 = front_join (code_kind_text p0.0) (function_name_text p1.0 +++ params_text p2.0 +++ credits_text v p3.0 +++ types_text p4.0 +++ two p5.0 +++ instrs_text p6.0 +++ labels_text p5.0 p7.0) bs p0.1 rest (field_code_kind.takes bs p0.0 p0.1 p0.2) from1 in
    subst (λ (y : PlainFunction). Front (code_kind_text y.kind +++ function_name_text y.name +++ params_text y.params +++ credits_text v y.credits +++ types_text y.results +++ two y.registers +++ instrs_text y.instrs +++ labels_text y.registers y.labels) bs rest) e.1 from0

function_gives : (v : Version) (bs : List ℕ) (y : PlainFunction) (rest : List ℕ) → Front (function_text v y) bs rest → Takes (function_reader v) bs y rest
unfolding function_reader function_text
function_gives v bs y rest h =
    let p0 = front_split (code_kind_text y.kind) (function_name_text y.name +++ params_text y.params +++ credits_text v y.credits +++ types_text y.results +++ two y.registers +++ instrs_text y.instrs +++ labels_text y.registers y.labels) bs rest h in
    let p1 = front_split (function_name_text y.name) (params_text y.params +++ credits_text v y.credits +++ types_text y.results +++ two y.registers +++ instrs_text y.instrs +++ labels_text y.registers y.labels) p0.0 rest p0.2 in
    let p2 = front_split (params_text y.params) (credits_text v y.credits +++ types_text y.results +++ two y.registers +++ instrs_text y.instrs +++ labels_text y.registers y.labels) p1.0 rest p1.2 in
    let p3 = front_split (credits_text v y.credits) (types_text y.results +++ two y.registers +++ instrs_text y.instrs +++ labels_text y.registers y.labels) p2.0 rest p2.2 in
    let p4 = front_split (types_text y.results) (two y.registers +++ instrs_text y.instrs +++ labels_text y.registers y.labels) p3.0 rest p3.2 in
    let p5 = front_split (two y.registers) (instrs_text y.instrs +++ labels_text y.registers y.labels) p4.0 rest p4.2 in
    let p6 = front_split (instrs_text y.instrs) (labels_text y.registers y.labels) p5.0 rest p5.2 in
    bind_gives code_kind_reader (part1 v) bs p0.0 y.kind y rest (field_code_kind.gives bs y.kind p0.0 p0.1)
    (bind_gives function_name_reader (part2 v y.kind) p0.0 p1.0 y.name y rest (field_function_name.gives p0.0 y.name p1.0 p1.1)
    (bind_gives params_reader (part3 v y.kind y.name) p1.0 p2.0 y.params y rest (field_params.gives p1.0 y.params p2.0 p2.1)
    (bind_gives (credits_reader v) (part4 v y.kind y.name y.params) p2.0 p3.0 y.credits y rest ((field_credits v).gives p2.0 y.credits p3.0 p3.1)
    (bind_gives list_reader (part5 v y.kind y.name y.params y.credits) p3.0 p4.0 y.results y rest (field_types.gives p3.0 y.results p4.0 p4.1)
    (bind_gives two_reader (part6 v y.kind y.name y.params y.credits y.results) p4.0 p5.0 y.registers y rest (field_two.gives p4.0 y.registers p5.0 p5.1)
    (bind_gives instrs_reader (part7 v y.kind y.name y.params y.credits y.results y.registers) p5.0 p6.0 y.instrs y rest (field_instrs.gives p5.0 y.instrs p6.0 p6.1)
    (bind_gives (labels_reader y.registers) (part8 v y.kind y.name y.params y.credits y.results y.registers y.instrs) p6.0 rest y.labels y rest ((field_labels y.registers).gives p6.0 y.labels rest p6.2) (refl, refl))))))))

function_alive : (v : Version) → Alive (function_reader v)
unfolding function_reader
function_alive v =
    then_alive code_kind_reader (part1 v) field_code_kind.alive (λ kind.
    then_alive function_name_reader (part2 v kind) field_function_name.alive (λ name.
    then_alive params_reader (part3 v kind name) field_params.alive (λ params.
    then_alive (credits_reader v) (part4 v kind name params) (field_credits v).alive (λ credits.
    then_alive list_reader (part5 v kind name params credits) field_types.alive (λ results.
    then_alive two_reader (part6 v kind name params credits results) field_two.alive (λ registers.
    then_alive instrs_reader (part7 v kind name params credits results registers) field_instrs.alive (λ instrs.
    then_alive (labels_reader registers) (part8 v kind name params credits results registers instrs) (field_labels registers).alive (λ labels.
    tt))))))))

field_function : (v : Version) → IsField (function_reader v) (function_text v)
field_function v = record { takes = function_takes v; gives = function_gives v; alive = function_alive v }

field_functions : (v : Version) → IsField (functions_reader v) (functions_text v)
unfolding functions_reader functions_text
field_functions v = field_counted (function_reader v) (function_text v) (field_function v) two_reader two field_two

-- the first six bytes
abbrev pub version_at : ℕ → Version
version_at low = if low == 1 then First else Second

abbrev magic_text : Version → Option (List ℕ)
magic_text v = Some (70 ∷ 80 ∷ 50 ∷ 67 ∷ 0 ∷ version_number v ∷ [])

just : (b n : ℕ) → is_in_range b b n ≡ true → n ≡ b
just b n e = let k = in_range b b n e in omega (arith, k.0, k.1)

version_again : (n : ℕ) → is_in_range 1 2 n ≡ true → version_number (version_at n) ≡ n
version_again zero e = absurd cc
version_again (suc zero) e = refl
version_again (suc (suc zero)) e = refl
version_again (suc (suc (suc n))) e = let k = in_range 1 2 (suc (suc (suc n))) e in absurd (omega (arith, k.1))

magic_takes : (bs : List ℕ) (v : Version) (rest : List ℕ) → Takes magic_reader bs v rest → Front (magic_text v) bs rest
unfolding magic_reader byte
magic_takes [] v rest h = absurd h
magic_takes (a ∷ []) v rest h = absurd h.1
magic_takes (a ∷ b ∷ []) v rest h = absurd h.1.1
magic_takes (a ∷ b ∷ c ∷ []) v rest h = absurd h.1.1.1
magic_takes (a ∷ b ∷ c ∷ d ∷ []) v rest h = absurd h.1.1.1.1
magic_takes (a ∷ b ∷ c ∷ d ∷ e ∷ []) v rest h = absurd h.1.1.1.1.1
magic_takes (a ∷ b ∷ c ∷ d ∷ e ∷ f ∷ bs) v rest h =
    let h1 = h.1 in
    let h2 = h1.1 in
    let h3 = h2.1 in
    let h4 = h3.1 in
    let h5 = h4.1 in
    let x = h5.1 in
    let low : f ≡ version_number v = sym (version_again f h5.0) ∙ ap version_number x.1 in
    λ i. just 70 a h.0 i ∷ just 80 b h1.0 i ∷ just 50 c h2.0 i ∷ just 67 d h3.0 i ∷ just 0 e h4.0 i ∷ low i ∷ x.0 i

magic_gives : (bs : List ℕ) (v : Version) (rest : List ℕ) → Front (magic_text v) bs rest → Takes magic_reader bs v rest
unfolding magic_reader byte
magic_gives bs First rest h = subst (λ bs. Takes magic_reader bs First rest) (sym h) (refl, (refl, (refl, (refl, (refl, (refl, (refl, refl)))))))
magic_gives bs Second rest h = subst (λ bs. Takes magic_reader bs Second rest) (sym h) (refl, (refl, (refl, (refl, (refl, (refl, (refl, refl)))))))

magic_alive : Alive magic_reader
unfolding magic_reader byte
magic_alive = ((70, refl), λ a _. ((80, refl), λ b _. ((50, refl), λ c _. ((67, refl), λ d _. ((0, refl), λ e _. ((1, refl), λ f _. tt))))))

field_magic : IsField magic_reader magic_text
field_magic = record { takes = magic_takes; gives = magic_gives; alive = magic_alive }

-- the whole
abbrev file_text : Version × PlainCode → Option (List ℕ)
file_text p = code_text p.0 p.1

abbrev file_body : Version → Reader (Version × PlainCode)
file_body v = table_reader >>= λ types. functions_reader v >>= λ functions. Give (v, record { types = types; functions = functions })

join_magic : (v : Version) (t : Option (List ℕ)) (bs mid rest : List ℕ) → Front (magic_text v) bs mid → Front t mid rest → Front (Some (70 ∷ 80 ∷ 50 ∷ 67 ∷ []) +++ Some (0 ∷ version_number v ∷ []) +++ t) bs rest
unfolding ◌+++◌
join_magic v None bs mid rest h k = absurd k
join_magic v (Some t) bs mid rest h k = h ∙ ap (λ m. 70 ∷ 80 ∷ 50 ∷ 67 ∷ 0 ∷ version_number v ∷ m) k

split_magic : (v : Version) (t : Option (List ℕ)) (bs rest : List ℕ) → Front (Some (70 ∷ 80 ∷ 50 ∷ 67 ∷ []) +++ Some (0 ∷ version_number v ∷ []) +++ t) bs rest → (mid : List ℕ) × Front (magic_text v) bs mid × Front t mid rest
unfolding ◌+++◌
split_magic v None bs rest h = absurd h
split_magic v (Some t) bs rest h = (t ++ rest, h, refl)

code_takes : (bs : List ℕ) (y : Version × PlainCode) (rest : List ℕ) → Takes code_reader bs y rest → Front (file_text y) bs rest
unfolding code_reader code_text
code_takes bs y rest h =
    let p = bind_takes magic_reader file_body bs y rest h in
    let k = takes2 table_reader table_text field_table (functions_reader p.0) (functions_text p.0) (field_functions p.0) (λ types functions. (p.0, record { types = types; functions = functions })) p.1 y rest p.3 in
    subst (λ (y : Version × PlainCode). Front (code_text y.0 y.1) bs rest) k.2
    (join_magic p.0 (table_text k.0 +++ functions_text p.0 k.1) bs p.1 rest (magic_takes bs p.0 p.1 p.2) k.3)

code_gives : (bs : List ℕ) (y : Version × PlainCode) (rest : List ℕ) → Front (file_text y) bs rest → Takes code_reader bs y rest
unfolding code_reader code_text
code_gives bs y rest h =
    let p = split_magic y.0 (table_text y.1.types +++ functions_text y.0 y.1.functions) bs rest h in
    bind_gives magic_reader file_body bs p.0 y.0 y rest (magic_gives bs y.0 p.0 p.1)
    (gives2 table_reader table_text field_table (functions_reader y.0) (functions_text y.0) (field_functions y.0) (λ types functions. (y.0, record { types = types; functions = functions })) y.1.types y.1.functions p.0 rest p.2)

code_alive : Alive code_reader
unfolding code_reader
code_alive = then_alive magic_reader file_body magic_alive (λ v. alive2 table_reader table_text field_table (functions_reader v) (functions_text v) (field_functions v) (λ types functions. (v, record { types = types; functions = functions })))

pub field_code : IsField code_reader file_text
field_code = record { takes = code_takes; gives = code_gives; alive = code_alive }

front_all : (o : Option (List ℕ)) (bs : List ℕ) → Front o bs [] → o ≡ Some bs
front_all None bs h = absurd h
front_all (Some t) bs h = ap Some (sym (append-nil t) ∙ sym h)

all_front : (o : Option (List ℕ)) (bs : List ℕ) → o ≡ Some bs → Front o bs []
all_front None bs e = cc
all_front (Some t) bs e = let k : t ≡ bs = cc in sym k ∙ sym (append-nil t)

-- What is read all of it is the text of the code.
pub read_text : (bs rest : List ℕ) (y : Version × PlainCode) → read_all code_reader bs ≡ Got y rest → CodeText bs y.0 y.1
read_text bs rest y e = front_all (file_text y) bs (code_takes bs y [] (got_spells code_reader code_alive bs rest y e))

-- The text of a code is read as that code.
pub text_read : (bs : List ℕ) (v : Version) (c : PlainCode) → CodeText bs v c → (rest : List ℕ) × (read_all code_reader bs ≡ Got (v, c) rest)
text_read bs v c e = spells_got code_reader code_alive bs (v, c) (code_gives bs (v, c) [] (all_front (code_text v c) bs e))

-- Where reading stops is the least bad place.
pub read_place : (bs : List ℕ) (left : ℕ) → read_all code_reader bs ≡ Stop left → IsPlace IsFileOf bs (length bs - left)
read_place bs left e =
    let p = stop_place code_reader code_alive bs left e in
    record {
      within = p.within;
      before = let b = p.before in (b.0, b.1.1, (b.1.0, front_all (file_text b.1) _ (code_takes _ b.1 [] b.2)));
      there = λ lt b. p.there lt (b.0, (b.2.0, b.1), code_gives _ (b.2.0, b.1) [] (all_front (code_text b.2.0 b.1) _ b.2.1));
      at_end = λ k x c. p.at_end k (c.0, x) (code_gives bs (c.0, x) [] (all_front (code_text c.0 x) bs c.1));
    }

takes_same : {A : Type 0} → (r : Reader A) (bs : List ℕ) (x y : A) (rest other : List ℕ) → Takes r bs x rest → Takes r bs y other → (x ≡ y) × (rest ≡ other)
takes_same (Give z) bs x y rest other h k = (sym h.1 ∙ k.1, sym h.0 ∙ k.0)
takes_same (Byte may next) [] x y rest other h k = absurd h
takes_same (Byte may next) (b ∷ bs) x y rest other h k = takes_same (next b) bs x y rest other h.1 k.1

text_takes : (bs more : List ℕ) (v : Version) (c : PlainCode) → CodeText bs v c → Takes code_reader (bs ++ more) (v, c) more
text_takes bs more v c e = code_gives (bs ++ more) (v, c) more (front_more (code_text v c) e)
  where
    front_more : (o : Option (List ℕ)) → o ≡ Some bs → Front o (bs ++ more) more
    front_more None e = cc
    front_more (Some t) e = let k : bs ≡ t = cc in ap (λ t. t ++ more) k

-- No text begins another, and each text is that of one version and one code.
pub one_text : (bs more : List ℕ) (v w : Version) (c d : PlainCode) → CodeText bs v c → CodeText (bs ++ more) w d → (more ≡ []) × (v ≡ w) × (c ≡ d)
one_text bs more v w c d e f =
    let k = takes_same code_reader (bs ++ more) (v, c) (w, d) more [] (text_takes bs more v c e) (code_gives (bs ++ more) (w, d) [] (all_front (code_text w d) (bs ++ more) f)) in
    (k.1, ap (λ (p : Version × PlainCode). p.0) k.0, ap (λ (p : Version × PlainCode). p.1) k.0)

-- A code has one text at most in a version.
pub one_spelling : (v : Version) (c : PlainCode) (text other : List ℕ) → CodeText text v c → CodeText other v c → text ≡ other
one_spelling v c text other e f = same_text text other (sym e ∙ f)
  where
    same_text : (s t : List ℕ) → Some s ≡ Some t → s ≡ t
    same_text s t e = cc

-- A text is that of one code, in one version.
pub one_code : (text : List ℕ) (v w : Version) (c d : PlainCode) → CodeText text v c → CodeText text w d → (v ≡ w) × (c ≡ d)
one_code text v w c d e f =
    let k = one_text text [] v w c d e (subst (λ t. CodeText t w d) (sym (append-nil text)) f) in
    (k.1, k.2)

pub no_front : (text more : List ℕ) (v w : Version) (c d : PlainCode) → CodeText text v c → CodeText (text ++ more) w d → more ≡ []
no_front text more v w c d e f = (one_text text more v w c d e f).0
