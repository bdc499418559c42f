-- Of what a walk has noted: the violations of the program, the least, and what is declared where there is none.
use Rattle.std.proofs.Common.{◌≡◌, ℕ, zero, suc, ◌+◌, ◌<◌, ◌⊎◌, inl, inr, Bool, true, false, not, List, [], ◌∷◌, ◌++◌, map, length, slice_get, Option, Some, None, refl, sym, subst, ap, ◌∙◌, arith, codes, option_map}
use Rattle.fip_base.specs.declared.refusal.PhaseError.TheVariants.{Refused}
use Rattle.fip_language.specs.declared.rule.Rule.TheVariants.{E13}
use Rattle.fip_language.specs.Core.{Name, Data, DataConstructor, Function, Core}
use Rattle.fip_language.specs.Declarations.{bool_type, data_types}
use Rattle.fip_language.specs.Mentions.{Mention}
use Rattle.fip_trees.specs.declared.least.Violation.{Violation}
use Rattle.fip_base.specs.declared.refusal.Refusal.{Refusal}
use Rattle.fip_trees.specs.declared.decls.TypeHead.{TypeHead}
use Rattle.fip_trees.specs.declared.decls.ConstructorId.{ConstructorId}
use Rattle.fip_trees.specs.Names.{Names, names, with_meanings}
use Rattle.fip_trees.specs.Least.{In, IsLeast, after, comes_before, refusal}
use Rattle.fip_trees.proofs.Leasts.{in_left, in_right, in_either, none_of, least_of}
use Rattle.data_types.specs.Types.{Declarations, IsValued, Node, End, NoTys}
use Rattle.data_types.specs.Marks.{true_of}
use Rattle.data_types.specs.Steps.{ReportsValued}
use Rattle.data_types.specs.Declarations.{declarations, declared_names, written_names, type_meanings, row_meanings, constructor_meanings, function_meanings, data_declared}
use Rattle.data_types.specs.Faults.{broken, when, repeats, written_violations, name_faults, all_data_faults, all_function_faults, type_mentions, row_mentions, constructor_mentions, function_mentions}
use Rattle.data_types.specs.Answers.{HasNoValue, Violates, IsFirst, Says, IsWalked, value_faults}
use Rattle.data_types.proofs.Repeats.{all_new, mention_names}
use Rattle.fip_language.proofs.Facts.{get_there as there, get_within as get_length, map_length}

-- ---- lists of violations

pub none_left : (xs ys : List Violation) → xs ++ ys ≡ [] → xs ≡ []
none_left [] ys h = refl
none_left (x ∷ xs) ys h = absurd (cc)

pub none_right : (xs ys : List Violation) → xs ++ ys ≡ [] → ys ≡ []
none_right [] ys h = h
none_right (x ∷ xs) ys h = absurd (cc)

-- ---- E13

-- a data type of the list whose flag isn't true, and its violation
record IsUnflagged (i : ℕ) (flags : List Bool) (ds : List Data) (w : Violation) : Type 0 where
  place : ℕ
  type : Data
  there : slice_get ds place ≡ Some type
  flag : true_of (slice_get flags (i + place)) ≡ false
  is : w ≡ broken E13 type.place type.name

unflagged_next : (i : ℕ) (flags : List Bool) (d : Data) (ds : List Data) (w : Violation) → IsUnflagged (suc i) flags ds w → IsUnflagged i flags (d ∷ ds) w
unflagged_next i flags d ds w u =
    let n : suc i + u.place ≡ i + suc u.place = omega arith in
    record { place = suc u.place; type = u.type; there = u.there; flag = sym (ap (λ k. true_of (slice_get flags k)) n) ∙ u.flag; is = u.is }

unflagged_in : (i : ℕ) (flags : List Bool) (ds : List Data) (w : Violation) → In w (value_faults i flags ds) → IsUnflagged i flags ds w
unflagged_in i flags [] w h = absurd h
unflagged_in i flags (d ∷ ds) w h = by (true_of (slice_get flags i)) refl (λ g. unflagged_next i flags d ds w (unflagged_in (suc i) flags ds w g)) h
  where
    by : (b : Bool) → true_of (slice_get flags i) ≡ b → (In w (value_faults (suc i) flags ds) → IsUnflagged i flags (d ∷ ds) w) → In w (when (not b) (broken E13 d.place d.name) ++ value_faults (suc i) flags ds) → IsUnflagged i flags (d ∷ ds) w
    by true e later g = later g
    by false e later (inl g) =
        let n : i + 0 ≡ i = omega arith in
        record { place = 0; type = d; there = refl; flag = ap (λ k. true_of (slice_get flags k)) n ∙ e; is = g }
    by false e later (inr g) = later g

in_unflagged : (i k : ℕ) (flags : List Bool) (ds : List Data) (d : Data) → slice_get ds k ≡ Some d → true_of (slice_get flags (i + k)) ≡ false → In (broken E13 d.place d.name) (value_faults i flags ds)
in_unflagged i k flags [] d h g = absurd (let e = sym h in cc)
in_unflagged i zero flags (x ∷ ds) d h g =
    let n : i + 0 ≡ i = omega arith in
    let same : x ≡ d = cc in
    let e : true_of (slice_get flags i) ≡ false = sym (ap (λ k. true_of (slice_get flags k)) n) ∙ g in
    subst (λ b. In (broken E13 d.place d.name) (when (not b) (broken E13 x.place x.name) ++ value_faults (suc i) flags ds)) (sym e) (inl (ap (λ (y : Data). broken E13 y.place y.name) (sym same)))
in_unflagged i (suc k) flags (x ∷ ds) d h g =
    let n : i + suc k ≡ suc i + k = omega arith in
    in_right (broken E13 d.place d.name) (when (not (true_of (slice_get flags i))) (broken E13 x.place x.name)) (value_faults (suc i) flags ds) (in_unflagged (suc i) k flags ds d h (sym (ap (λ j. true_of (slice_get flags j)) n) ∙ g))

-- within the list what isn't true is false
is_flag : (flags : List Bool) (k : ℕ) → k < length flags → true_of (slice_get flags k) ≡ false → slice_get flags k ≡ Some false
is_flag [] k h g = absurd (omega arith)
is_flag (b ∷ flags) zero h g = ap Some g
is_flag (b ∷ flags) (suc k) h g = is_flag flags k (omega arith) g

flag_of : (o : Option Bool) → (o ≡ Some true → ⊥) → true_of o ≡ false
flag_of None h = refl
flag_of (Some true) h = absurd (h refl)
flag_of (Some false) h = refl

unvalued_in : (core : Core) (flags : List Bool) (w : Violation) → ReportsValued (declarations core) flags → In w (value_faults 1 flags core.types) → HasNoValue core w
unvalued_in core flags w reported h =
    let u = unflagged_in 1 flags core.types w h in
    let n = map_length (data_declared (declared_names core)) (data_types core) in
    let l = reported.all in
    let k = get_length core.types u.place u.type u.there in
    let within : suc u.place < length flags = omega (arith, n, l, k) in
    let one : 1 + u.place ≡ suc u.place = omega arith in
    record { place = u.place; type = u.type; there = u.there; unvalued = reported.unvalued (suc u.place) (is_flag flags (suc u.place) within (sym (ap (λ j. true_of (slice_get flags j)) one) ∙ u.flag)); is = u.is }

in_unvalued : (core : Core) (flags : List Bool) (w : Violation) → ReportsValued (declarations core) flags → HasNoValue core w → In w (value_faults 1 flags core.types)
in_unvalued core flags w reported h =
    let one : 1 + h.place ≡ suc h.place = omega arith in
    subst (λ v. In v (value_faults 1 flags core.types)) (sym h.is) (in_unflagged 1 h.place flags core.types h.type h.there (ap (λ j. true_of (slice_get flags j)) one ∙ flag_of (slice_get flags (suc h.place)) (λ e. h.unvalued (reported.valued (suc h.place) e))))

-- ---- the report

violates_in : (core : Core) (flags : List Bool) (w : Violation) → ReportsValued (declarations core) flags → In w (written_violations core ++ value_faults 1 flags core.types) → Violates core w
violates_in core flags w reported h = elim (in_either w (written_violations core) (value_faults 1 flags core.types) h) [
  | inl g ↦ inl g
  | inr g ↦ inr (unvalued_in core flags w reported g)
]

in_violates : (core : Core) (flags : List Bool) (w : Violation) → ReportsValued (declarations core) flags → Violates core w → In w (written_violations core ++ value_faults 1 flags core.types)
in_violates core flags w reported (inl g) = in_left w (written_violations core) (value_faults 1 flags core.types) g
in_violates core flags w reported (inr g) = in_right w (written_violations core) (value_faults 1 flags core.types) (in_unvalued core flags w reported g)

pub first_of : (core : Core) (v : Violation) → IsWalked core None (Some v) → IsFirst core v
first_of core v walked =
    let l = least_of (written_violations core ++ value_faults 1 walked.flags core.types) v (sym walked.noted) in
    record {
      violated = violates_in core walked.flags v walked.reported l.violated;
      least = λ w h. l.least w (in_violates core walked.flags w walked.reported h);
    }

pub none_violated : (core : Core) → IsWalked core None None → (w : Violation) → Violates core w → ⊥
none_violated core walked w h = subst (In w) (none_of (written_violations core ++ value_faults 1 walked.flags core.types) (sym walked.noted)) (in_violates core walked.flags w walked.reported h)

-- ---- what is declared where no name occurs twice

abbrev made : List (Name × TypeHead) → List (Name × ConstructorId) → List (Name × ℕ) → Names
made ts ks fs = record { types = ts; constructors = ks; functions = fs }

pub names_eq : (a b : Names) → a.types ≡ b.types → a.constructors ≡ b.constructors → a.functions ≡ b.functions → a ≡ b
names_eq a b e f g = ap (λ ts. made ts a.constructors a.functions) e ∙ ap (λ ks. made b.types ks a.functions) f ∙ ap (made b.types b.constructors) g

names_both : {A : Type 0} (xs ys : List (Name × A)) → names (xs ++ ys) ≡ names xs ++ names ys
names_both [] ys = refl
names_both (x ∷ xs) ys = ap (λ l. x.0 ∷ l) (names_both xs ys)

type_names : (n : ℕ) (ds : List Data) → names (type_meanings n ds) ≡ mention_names (type_mentions ds)
type_names n [] = refl
type_names n (d ∷ ds) = ap (λ l. d.name ∷ l) (type_names (suc n) ds)

function_names : (i : ℕ) (fs : List Function) → names (function_meanings i fs) ≡ mention_names (function_mentions fs)
function_names i [] = refl
function_names i (f ∷ fs) = ap (λ l. f.name ∷ l) (function_names (suc i) fs)

-- a row's names, and others after them
row_then : (n c : ℕ) (ks : List DataConstructor) (ms : List Mention) → names (row_meanings n c ks) ++ mention_names ms ≡ mention_names (row_mentions ks ++ ms)
row_then n c [] ms = refl
row_then n c (k ∷ ks) ms = ap (λ l. k.name ∷ l) (row_then n (suc c) ks ms)

constructor_names : (n : ℕ) (ds : List Data) → names (constructor_meanings n ds) ≡ mention_names (constructor_mentions ds)
constructor_names n [] = refl
constructor_names n (d ∷ ds) =
    names_both (row_meanings n 0 d.constructors) (constructor_meanings (suc n) ds)
    ∙ ap (λ l. names (row_meanings n 0 d.constructors) ++ l) (constructor_names (suc n) ds)
    ∙ row_then n 0 d.constructors (constructor_mentions ds)

pub all_declared : (core : Core) → written_violations core ≡ [] → declared_names core ≡ written_names core
all_declared core h =
    let n = none_left (name_faults core) (all_data_faults (declared_names core) core.types ++ all_function_faults (declared_names core) core.functions) h in
    let ts = repeats (codes "bool" ∷ []) (type_mentions core.types) in
    let ks = repeats (codes "False" ∷ codes "True" ∷ []) (constructor_mentions core.types) in
    let fs = repeats [] (function_mentions core.functions) in
    let types : (declared_names core).types ≡ (written_names core).types = all_new (type_meanings 2 core.types) (type_meanings 1 (bool_type ∷ [])) (type_mentions core.types) (type_names 2 core.types) (none_left ts (ks ++ fs) n) in
    let constructors : (declared_names core).constructors ≡ (written_names core).constructors = all_new (constructor_meanings 2 core.types) (constructor_meanings 1 (bool_type ∷ [])) (constructor_mentions core.types) (constructor_names 2 core.types) (none_left ks fs (none_right ts (ks ++ fs) n)) in
    let functions : (declared_names core).functions ≡ (written_names core).functions = all_new (function_meanings 0 core.functions) [] (function_mentions core.functions) (function_names 0 core.functions) (none_right ks fs (none_right ts (ks ++ fs) n)) in
    names_eq (declared_names core) (written_names core) types constructors functions

pub declared_if_none : (core : Core) → IsWalked core None None → declared_names core ≡ written_names core
declared_if_none core walked = all_declared core (none_left (written_violations core) (value_faults 1 walked.flags core.types) (none_of (written_violations core ++ value_faults 1 walked.flags core.types) (sym walked.noted)))

-- ---- what the call answers

-- what a refusal names is the least violation
pub refused : (core : Core) (o : Option Violation) (r : Refusal) → IsWalked core None o → option_map refusal o ≡ Some r → Says core (Refused r)
refused core None r walked g = absurd (cc)
refused core (Some v) r walked g = (v, first_of core v walked, cc)

-- and where there is none, no rule is broken
pub accepted : (core : Core) (o : Option Violation) → IsWalked core None o → option_map refusal o ≡ None → (w : Violation) → Violates core w → ⊥
accepted core None walked g = none_violated core walked
accepted core (Some v) walked g = absurd (cc)

pub accepted_names : (core : Core) (o : Option Violation) → IsWalked core None o → option_map refusal o ≡ None → declared_names core ≡ written_names core
accepted_names core None walked g = declared_if_none core walked
accepted_names core (Some v) walked g = absurd (cc)

-- ---- E13: each data type has a value

bool_valued : (core : Core) → IsValued (declarations core) 0
bool_valued core = (Node 0 End, (NoTys, refl, tt))

flag_valued : (core : Core) (flags : List Bool) (n : ℕ) (o : Option Bool) → ReportsValued (declarations core) flags → slice_get flags n ≡ o → n < length flags → (slice_get flags n ≡ Some false → ⊥) → IsValued (declarations core) n
flag_valued core flags n None reported e h k = absurd (let r = got_none flags n h e in r)
  where
    got_none : (xs : List Bool) (m : ℕ) → m < length xs → slice_get xs m ≡ None → ⊥
    got_none [] m h e = omega (arith, h)
    got_none (x ∷ xs) zero h e = absurd (cc)
    got_none (x ∷ xs) (suc m) h e = got_none xs m (omega (arith, h)) e
flag_valued core flags n (Some true) reported e h k = reported.valued n e
flag_valued core flags n (Some false) reported e h k = absurd (k e)

each_valued : (core : Core) → IsWalked core None None → (n : ℕ) → n < length (data_types core) → IsValued (declarations core) n
each_valued core walked zero h = bool_valued core
each_valued core walked (suc n) h =
    let at = there core.types n (omega (arith, h)) in
    let size = walked.reported.all in
    let same = map_length (data_declared (declared_names core)) (data_types core) in
    flag_valued core walked.flags (suc n) (slice_get walked.flags (suc n)) walked.reported refl (omega (arith, h, size, same))
    (λ e. none_violated core walked (broken E13 at.0.place at.0.name) (inr (record { place = n; type = at.0; there = at.1; unvalued = walked.reported.unvalued (suc n) e; is = refl })))

pub accepted_valued : (core : Core) (o : Option Violation) → IsWalked core None o → option_map refusal o ≡ None → (n : ℕ) → n < length (data_types core) → IsValued (declarations core) n
accepted_valued core None walked g = each_valued core walked
accepted_valued core (Some v) walked g = absurd (cc)
