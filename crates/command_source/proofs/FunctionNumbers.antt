-- The functions of a code that was lowered are those of the instances that aren't plain, in their order.
use Rattle.std.proofs.Common.{◌≡◌, ◌∙◌, ◌⊎◌, ◌<◌, ◌+◌, ℕ, zero, suc, Bool, true, false, List, [], ◌∷◌, ◌++◌, length, map, Option, Some, None, slice_get, refl, sym, ap, ap₂, subst, inl, inr, arith, if◌then◌else◌}
use Rattle.std.specs.Prelude.{bytes_eq, option_and_then, Result, Ok, Err, IfOk}
use Rattle.std.proofs.lemmas.Option.{none-some, same_Some}
use Rattle.std.proofs.lemmas.Slice.Eq.{bytes_eq-Decides}
use Rattle.fip_language.specs.declared.FunKind.{FunKind}
use Rattle.fip_language.specs.declared.FunKind.TheVariants.{Fip, Fbip, Fun}
use Rattle.fip_language.specs.Every.{Among}
use Rattle.fip_language.specs.declared.rule.Rule.TheVariants.{E71}
use Rattle.fip_base.specs.declared.plain.Stack.{Stack}
use Rattle.fip_base.specs.declared.refusal.Refusal.{Refusal}
use Rattle.fip_trees.specs.declared.groups.Member.{Member}
use Rattle.fip_trees.specs.Tree.{Instance, Program}
use Rattle.cell_code.specs.declared.code.Code.{Code}
use Rattle.cell_code.specs.declared.code.Function.{Function}
use Rattle.program_front.specs.cell_lower.Limits.{is_ruled, registers}
use Rattle.program_front.specs.cell_lower.Shape.{Header, header, header_of, and_if, headers, headers_from}
use Rattle.program_front.specs.tail_groups.Members.{AreMembers}
use Rattle.cell_code.specs.Plain.{PlainFunction, plain, plain_function}
use Rattle.code_verify.specs.Checked.{HaveStacks, stack_at, stack_or_none}
use Rattle.code_verify.specs.code_rules.StackNumbers.{HasStack, IsFip}
use Rattle.command_outcome.specs.declared.failure.Failure.{Failure}
use Rattle.command_outcome.specs.declared.failure.Failure.TheVariants as F
use Rattle.program_front.specs.source_report.Report.{IsAccepted}
use Rattle.machine_correctness.proofs.compiler_correctness.Headers.{typed_named}
use Rattle.machine_correctness.proofs.compiler_correctness.Joined.{instance_at}
use Rattle.machine_correctness.specs.compiler_correctness.lowering_relation.LoweredBodies.{has_function, one_more, if_function, function_of}
use Rattle.fip_language.proofs.Facts.{get_within}
use Rattle.command_source.specs.Entries.{Chosen, IsNamed}
use Rattle.command_source.specs.FunctionNumbers.{function_stacks, function_if, functions_of, root_function, MissesFunction}
use Rattle.command_source.specs.ProgramCode.{IsLoweredFrom}
use Rattle.command_source.specs.Roots.{held, root_named}
use Rattle.command_source.specs.Wanted.{IsCompiled, IsRefusedBy, MissesCode, of_entry}
use Rattle.machine_correctness.proofs.Entries.{headers_of}

-- ---- stack numbers

-- a function whose stack number is that of an instance of these, which are numbered from k on
record IsStackOf (ms : List Member) (k : ℕ) (ds : List Instance) (ss : List (Option Stack)) (n : ℕ) : Type 0 where
  place : ℕ
  member : ℕ
  function : function_of ds place ≡ Some n
  same : member ≡ k + place
  stack : slice_get ss n ≡ Some (held ms member)

-- function n is past the last one of these, or it is that of an instance
abbrev IsStackAt : List Member → ℕ → List Instance → List Header → List (Option Stack) → ℕ → Type 0
IsStackAt ms k ds hs ss n = ((slice_get hs n ≡ None) × (slice_get ss n ≡ None)) ⊎ IsStackOf ms k ds ss n

later_stack : (ms : List Member) (k : ℕ) (d : Instance) (ds : List Instance) (hs gs : List Header) (ss ts : List (Option Stack)) (n m : ℕ) (b : Bool) → has_function d.kind ≡ b → one_more b (Some n) ≡ Some m → slice_get gs m ≡ slice_get hs n → slice_get ts m ≡ slice_get ss n → IsStackAt ms (suc k) ds hs ss n → IsStackAt ms k (d ∷ ds) gs ts m
later_stack ms k d ds hs gs ss ts n m b kind more heads stacks (inl x) = inl (heads ∙ x.0, stacks ∙ x.1)
later_stack ms k d ds hs gs ss ts n m b kind more heads stacks (inr x) = inr (record {
  place = suc x.place;
  member = x.member;
  function = ap₂ one_more kind x.function ∙ more;
  same = let e = x.same in omega (arith, e);
  stack = stacks ∙ x.stack;
})

one_stack : (kind : FunKind) (ms : List Member) (k : ℕ) (d : Instance) (ds : List Instance) (h : Header) (hs : List Header) (ss : List (Option Stack)) (n : ℕ) → d.kind ≡ kind → ((m : ℕ) → IsStackAt ms (suc k) ds hs ss m) → IsStackAt ms k (d ∷ ds) (and_if (is_ruled kind) h hs) ((if is_ruled kind then held ms k ∷ [] else []) ++ ss) n
one_stack Fip ms k d ds h hs ss zero e rest = inr (record { place = 0; member = k; function = ap (λ x. if_function (has_function x)) e; same = omega arith; stack = refl })
one_stack Fip ms k d ds h hs ss (suc n) e rest = later_stack ms k d ds hs (h ∷ hs) ss (held ms k ∷ ss) n (suc n) true (ap has_function e) refl refl refl (rest n)
one_stack Fbip ms k d ds h hs ss zero e rest = inr (record { place = 0; member = k; function = ap (λ x. if_function (has_function x)) e; same = omega arith; stack = refl })
one_stack Fbip ms k d ds h hs ss (suc n) e rest = later_stack ms k d ds hs (h ∷ hs) ss (held ms k ∷ ss) n (suc n) true (ap has_function e) refl refl refl (rest n)
one_stack Fun ms k d ds h hs ss n e rest = later_stack ms k d ds hs hs ss ss n n false (ap has_function e) refl refl refl (rest n)

stacks_at : (ns ms : List Member) (k : ℕ) (ds : List Instance) (n : ℕ) → IsStackAt ms k ds (headers_from ns k ds) (function_stacks ms k ds) n
stacks_at ns ms k [] n = inl (refl, refl)
stacks_at ns ms k (d ∷ ds) n = one_stack d.kind ms k d ds (header_of (registers ns k) d) (headers_from ns (suc k) ds) (function_stacks ms (suc k) ds) n refl (λ m. stacks_at ns ms (suc k) ds m)

no_function : (fs : List Function) (n : ℕ) (f : PlainFunction) → slice_get (map plain_function fs) n ≡ Some f → slice_get (map header fs) n ≡ None → ⊥
no_function [] n f e none = none-some f e
no_function (g ∷ fs) zero f e none = none-some (header g) (sym none)
no_function (g ∷ fs) (suc n) f e none = no_function fs n f e none

not_past : {A : Type 0} (xs : List A) (i : ℕ) → slice_get xs i ≡ None → i < length xs → ⊥
not_past [] i e within = omega (arith, within)
not_past (x ∷ xs) zero e within = none-some x (sym e)
not_past (x ∷ xs) (suc i) e within = not_past xs i e (omega (arith, within))

headed : (p : Program) (code : Code) (lowered : IsLoweredFrom p (plain code)) → map header code.functions.items ≡ headers lowered.members p.instances
headed p code lowered = sym (headers_of code.functions.items) ∙ lowered.functions

has_stack : (p : Program) (code : Code) (ms : List Member) → AreMembers p.instances ms → IsLoweredFrom p (plain code) → (n : ℕ) → HasStack (plain code) n (stack_at (function_stacks ms 0 p.instances) n)
has_stack p code ms are lowered n = by (stacks_at lowered.members ms 0 p.instances n)
  where
    none : slice_get (headers lowered.members p.instances) n ≡ None → IsFip (plain code) n → ⊥
    none e x = no_function code.functions.items n x.0 x.1 (ap (λ hs. slice_get hs n) (headed p code lowered) ∙ e)

    of_member : (i : ℕ) → function_of p.instances i ≡ Some n → (o : Option Member) → slice_get ms i ≡ o → HasStack (plain code) n (option_and_then (λ m. m.stack) o)
    of_member i function None e =
        let d = instance_at p.instances i n function in
        let within = get_within p.instances i d.0 d.1 in
        let size = are.size in
        absurd (not_past ms i e (omega (arith, within, size)))
    of_member i function (Some m) e = lowered.stacks ms are i n m function e

    by : IsStackAt ms 0 p.instances (headers lowered.members p.instances) (function_stacks ms 0 p.instances) n → HasStack (plain code) n (stack_at (function_stacks ms 0 p.instances) n)
    by (inl x) = subst (λ o. HasStack (plain code) n (stack_or_none o)) (sym x.1) (none x.0)
    by (inr x) =
        let same : x.place ≡ x.member = (let e = x.same in omega (arith, e)) in
        subst (λ o. HasStack (plain code) n (stack_or_none o)) (sym x.stack)
        (subst (λ i. HasStack (plain code) n (held ms i)) same (of_member x.place x.function (slice_get ms x.place) refl))

pub have_stacks : (p : Program) (code : Code) (ms : List Member) → AreMembers p.instances ms → IsLoweredFrom p (plain code) → HaveStacks (plain code) (function_stacks ms 0 p.instances)
have_stacks p code ms are lowered = λ n. has_stack p code ms are lowered n

-- ---- the function of a root

-- the first root of a name, which isn't plain, and its function: the one of the header at an index of these
record IsRootAt (ms : List Member) (k n m : ℕ) (name : List ℕ) (ds : List Instance) : Type 0 where
  instance : Instance
  among : Among instance ds
  root : instance.root ≡ true
  same : bytes_eq instance.name name ≡ true
  named : root_named name ds ≡ Some instance
  compiled : instance.kind ≡ Fun → ⊥
  index : ℕ
  number : m ≡ n + index
  registers : ℕ
  head : slice_get (headers_from ms k ds) index ≡ Some (header_of registers instance)

-- an instance that has a function isn't plain
function_here : (kind : FunKind) (n m : ℕ) → Some (function_if kind n) ≡ Some (Some m) → (m ≡ n) × (is_ruled kind ≡ true) × (kind ≡ Fun → ⊥)
function_here Fip n m e = (sym (same_Some n m (same_Some (Some n) (Some m) e)), refl, λ h. cc)
function_here Fbip n m e = (sym (same_Some n m (same_Some (Some n) (Some m) e)), refl, λ h. cc)
function_here Fun n m e = (let none : Option ℕ = None in absurd (none-some m (same_Some none (Some m) e)))

header_more : (b : Bool) (h : Header) (hs : List Header) (i : ℕ) (g : Header) → slice_get hs i ≡ Some g → slice_get (and_if b h hs) ((if b then 1 else 0) + i) ≡ Some g
header_more true h hs i g e = subst (λ j. slice_get (h ∷ hs) j ≡ Some g) (let z : suc i ≡ 1 + i = omega arith in z) e
header_more false h hs i g e = subst (λ j. slice_get hs j ≡ Some g) (let z : i ≡ 0 + i = omega arith in z) e

root_at : (ms : List Member) (k n m : ℕ) (name : List ℕ) (ds : List Instance) → root_function n name ds ≡ Some (Some m) → IsRootAt ms k n m name ds
root_at ms k n m name [] e = absurd (none-some (Some m) e)
root_at ms k n m name (d ∷ ds) e = by d.root (bytes_eq d.name name) refl refl (λ h. root_at ms (suc k) (n + functions_of d) m name ds h) e
  where
    later : root_named name (d ∷ ds) ≡ root_named name ds → IsRootAt ms (suc k) (n + functions_of d) m name ds → IsRootAt ms k n m name (d ∷ ds)
    later same x = record {
      instance = x.instance;
      among = inr x.among;
      root = x.root;
      same = x.same;
      named = same ∙ x.named;
      compiled = x.compiled;
      index = functions_of d + x.index;
      number = let e = x.number in omega (arith, e);
      registers = x.registers;
      head = header_more (is_ruled d.kind) (header_of (registers ms k) d) (headers_from ms (suc k) ds) x.index (header_of x.registers x.instance) x.head;
    }

    by : (root same : Bool) → d.root ≡ root → bytes_eq d.name name ≡ same → (root_function (n + functions_of d) name ds ≡ Some (Some m) → IsRootAt ms (suc k) (n + functions_of d) m name ds) → (if root then if same then Some (function_if d.kind n) else root_function (n + functions_of d) name ds else root_function (n + functions_of d) name ds) ≡ Some (Some m) → IsRootAt ms k n m name (d ∷ ds)
    by true true r s rest h =
        let f = function_here d.kind n m h in
        record {
          instance = d;
          among = inl refl;
          root = r;
          same = s;
          named = ap (λ b. if b then if bytes_eq d.name name then Some d else root_named name ds else root_named name ds) r ∙ ap (λ b. if b then Some d else root_named name ds) s;
          compiled = f.2;
          index = 0;
          number = let e = f.0 in omega (arith, e);
          registers = registers ms k;
          head = ap (λ b. slice_get (and_if b (header_of (registers ms k) d) (headers_from ms (suc k) ds)) 0) f.1;
        }
    by true false r s rest h = later (ap (λ b. if b then if bytes_eq d.name name then Some d else root_named name ds else root_named name ds) r ∙ ap (λ b. if b then Some d else root_named name ds) s) (rest h)
    by false same r s rest h = later (ap (λ b. if b then if bytes_eq d.name name then Some d else root_named name ds else root_named name ds) r) (rest h)

-- there is a root of the name, and it isn't plain
pub root_compiled : (m : ℕ) (name : List ℕ) (ds : List Instance) → root_function 0 name ds ≡ Some (Some m) → IsCompiled (root_named name ds)
root_compiled m name ds e = (let x = root_at [] 0 0 m name ds e in subst IsCompiled (sym x.named) x.compiled)

function_missed : (kind : FunKind) (n : ℕ) (name : List ℕ) (r : Refusal) → MissesFunction (Some (function_if kind n)) name r → (kind ≡ Fun) × (r ≡ of_entry E71 name)
function_missed Fip n name r h = absurd h
function_missed Fbip n name r h = absurd h
function_missed Fun n name r h = (refl, h)

-- where there is no function, a root is missing or plain
code_misses : (n : ℕ) (name : List ℕ) (ds : List Instance) (r : Refusal) → MissesFunction (root_function n name ds) name r → MissesCode (root_named name ds) name r
code_misses n name [] r h = h
code_misses n name (d ∷ ds) r h = by d.root (bytes_eq d.name name) (λ x. code_misses (n + functions_of d) name ds r x) h
  where
    by : (root same : Bool) → (MissesFunction (root_function (n + functions_of d) name ds) name r → MissesCode (root_named name ds) name r) → MissesFunction (if root then if same then Some (function_if d.kind n) else root_function (n + functions_of d) name ds else root_function (n + functions_of d) name ds) name r → MissesCode (if root then if same then Some d else root_named name ds else root_named name ds) name r
    by true true rest x = function_missed d.kind n name r x
    by true false rest x = rest x
    by false same rest x = rest x

pub missed : (name : List ℕ) (ds : List Instance) (f : Failure) → IsRefusedBy (λ r. MissesFunction (root_function 0 name ds) name r) f → IsRefusedBy (MissesCode (root_named name ds) name) f
missed name ds (F.Refused r) h = code_misses 0 name ds r h
missed name ds F.NoMemory h = tt
missed name ds f h = absurd h

function_headed : (fs : List Function) (n : ℕ) (h : Header) → slice_get (map header fs) n ≡ Some h → (f : Function) × (slice_get fs n ≡ Some f) × (header f ≡ h)
function_headed [] n h e = absurd (none-some h e)
function_headed (f ∷ fs) zero h e = (f, refl, same_Some (header f) h e)
function_headed (f ∷ fs) (suc n) h e = function_headed fs n h e

pub named_at : (source name : List ℕ) (p : Program) (code : Code) (n : ℕ) → IsAccepted source p → IsLoweredFrom p (plain code) → root_function 0 name p.instances ≡ Some (Some n) → IsNamed name code.functions.items n
named_at source name p code n accepted lowered e =
    let x = root_at lowered.members 0 0 n name p.instances e in
    let d = x.instance in
    let own : d.name ≡ name = (bytes_eq-Decides d.name name).0 x.same in
    let some = (typed_named source p accepted.tailed.credited.owned.matched.typed d x.among).0.1 in
    let number : n ≡ x.index = (let z = x.number in omega (arith, z)) in
    let at : slice_get (map header code.functions.items) n ≡ Some (header_of x.registers d) = ap (λ hs. slice_get hs n) (headed p code lowered) ∙ ap (slice_get (headers lowered.members p.instances)) number ∙ x.head in
    let f = function_headed code.functions.items n (header_of x.registers d) at in
    record {
      some = subst (λ y. 0 < length y) own some;
      function = f.0;
      there = f.1;
      named = ap (λ (h : Header). h.name) f.2 ∙ ap (λ b. if b then d.name else []) x.root ∙ own;
    }

pub named_kept : (name : List ℕ) (code : Code) (n : ℕ) (o : Result Chosen Failure) → IsNamed name code.functions.items n → IfOk o (λ r. r.checked.code ≡ code) → IfOk o (λ r. r.entry ≡ n) → IfOk o (λ r. IsNamed name r.checked.code.functions.items r.entry)
named_kept name code n (Ok r) named same entry = subst (λ c. IsNamed name c.functions.items r.entry) (sym same) (subst (IsNamed name code.functions.items) (sym entry) named)
named_kept name code n (Err f) named same entry = tt
