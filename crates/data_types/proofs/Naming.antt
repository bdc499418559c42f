-- The names of a program, added kind by kind.
use Rattle.std.proofs.Common.{◌≡◌, ℕ, Bool, List, [], ◌++◌, Option, sym, ap, ◌∙◌}
use Rattle.fip_language.specs.Core.{Name, Data, Function, Core}
use Rattle.fip_trees.specs.declared.least.Violation.{Violation}
use Rattle.fip_trees.specs.Least.{after}
use Rattle.fip_trees.specs.Names.{Names, names, with_meanings}
use Rattle.fip_trees.proofs.Leasts.{after-append}
use Rattle.data_types.specs.Answers.{value_faults}
use Rattle.data_types.specs.Declarations.{Scope, function_scope, predeclared, declared_names, type_meanings, constructor_meanings, function_meanings}
use Rattle.data_types.specs.Faults.{credit_faults, static_mentions, parameter_mentions, header_faults, block_faults, function_faults, all_data_faults, all_function_faults, written_violations, repeats, name_faults, type_mentions, constructor_mentions, function_mentions}
use Rattle.data_types.proofs.Exact.{names_eq}

-- the types were added to a, which gave b
pub record WithTypes (a b : Names) (ds : List Data) : Type 0 where
  pub types : b.types ≡ with_meanings a.types (type_meanings 2 ds)
  pub constructors : b.constructors ≡ a.constructors
  pub functions : b.functions ≡ a.functions

pub record WithConstructors (a b : Names) (ds : List Data) : Type 0 where
  pub constructors : b.constructors ≡ with_meanings a.constructors (constructor_meanings 2 ds)
  pub types : b.types ≡ a.types
  pub functions : b.functions ≡ a.functions

pub record WithFunctions (a b : Names) (fs : List Function) : Type 0 where
  pub functions : b.functions ≡ with_meanings a.functions (function_meanings 0 fs)
  pub types : b.types ≡ a.types
  pub constructors : b.constructors ≡ a.constructors

pub all_named : (core : Core) (a b d e : Names) → a ≡ predeclared → WithTypes a b core.types → WithConstructors b d core.types → WithFunctions d e core.functions → e ≡ declared_names core
all_named core a b d e h f g k =
    names_eq e (declared_names core)
    (k.types ∙ g.types ∙ f.types ∙ ap (λ (n : Names). with_meanings n.types (type_meanings 2 core.types)) h)
    (k.constructors ∙ g.constructors ∙ ap (λ es. with_meanings es (constructor_meanings 2 core.types)) (f.constructors ∙ ap (λ (n : Names). n.constructors) h))
    (k.functions ∙ ap (λ es. with_meanings es (function_meanings 0 core.functions)) (g.functions ∙ f.functions ∙ ap (λ (n : Names). n.functions) h))

pub all_noted : (core : Core) (a b d : Names) (l m n o : Option Violation) → a ≡ predeclared → WithTypes a b core.types → WithConstructors b d core.types → m ≡ after l (repeats (names a.types) (type_mentions core.types)) → n ≡ after m (repeats (names b.constructors) (constructor_mentions core.types)) → o ≡ after n (repeats (names d.functions) (function_mentions core.functions)) → o ≡ after l (name_faults core)
all_noted core a b d l m n o h f g x y z =
    let ts = repeats (names predeclared.types) (type_mentions core.types) in
    let ks = repeats (names predeclared.constructors) (constructor_mentions core.types) in
    let fs = repeats (names predeclared.functions) (function_mentions core.functions) in
    let x' : m ≡ after l ts = x ∙ ap (λ (n : Names). after l (repeats (names n.types) (type_mentions core.types))) h in
    let y' : n ≡ after m ks = y ∙ ap (λ es. after m (repeats (names es) (constructor_mentions core.types))) (f.constructors ∙ ap (λ (n : Names). n.constructors) h) in
    let z' : o ≡ after n fs = z ∙ ap (λ es. after n (repeats (names es) (function_mentions core.functions))) (g.functions ∙ f.functions ∙ ap (λ (n : Names). n.functions) h) in
    z' ∙ ap (λ n. after n fs) y' ∙ ap (λ m. after (after m ks) fs) x'
    ∙ sym (after-append l ts (ks ++ fs) ∙ after-append (after l ts) ks fs)

-- ---- what the walks have noted, one after another

abbrev pub scope_of : Names → List (Name × ℕ) → Scope
scope_of ns ps = record { names = ns; parameters = ps }

three : (o : Option Violation) (xs ys zs : List Violation) → after (after (after o xs) ys) zs ≡ after o (xs ++ (ys ++ zs))
three o xs ys zs = sym (after-append o xs (ys ++ zs) ∙ after-append (after o xs) ys zs)

pub function_noted : (ns : Names) (f : Function) (s : Scope) (l m n o p : Option Violation) → m ≡ after l (credit_faults f.credits) → n ≡ after m (repeats [] (static_mentions f.statics)) → o ≡ after n (repeats [] (parameter_mentions f.parameters)) → s ≡ function_scope ns f → p ≡ after o (header_faults s f ++ block_faults s f.body) → p ≡ after l (function_faults ns f)
function_noted ns f s l m n o p credits statics parameters scope mentions =
    let t = function_scope ns f in
    let cs = credit_faults f.credits in
    let ss = repeats [] (static_mentions f.statics) in
    let ps = repeats [] (parameter_mentions f.parameters) in
    let rest = header_faults t f ++ block_faults t f.body in
    let e : p ≡ after o rest = mentions ∙ ap (λ s. after o (header_faults s f ++ block_faults s f.body)) scope in
    let d : o ≡ after (after (after l cs) ss) ps = parameters ∙ ap (λ n. after n ps) (statics ∙ ap (λ m. after m ss) credits) in
    e ∙ ap (λ o. after o rest) d ∙ three (after l cs) ss ps rest ∙ sym (after-append l cs (ss ++ (ps ++ rest)))

pub all_walked : (core : Core) (ns : Names) (flags : List Bool) (l m n o p : Option Violation) → ns ≡ declared_names core → m ≡ after l (name_faults core) → n ≡ after m (all_data_faults ns core.types) → o ≡ after n (all_function_faults ns core.functions) → p ≡ after o (value_faults 1 flags core.types) → p ≡ after l (written_violations core ++ value_faults 1 flags core.types)
all_walked core ns flags l m n o p same names types functions values =
    let d = declared_names core in
    let x : n ≡ after m (all_data_faults d core.types) = types ∙ ap (λ ns. after m (all_data_faults ns core.types)) same in
    let y : o ≡ after n (all_function_faults d core.functions) = functions ∙ ap (λ ns. after n (all_function_faults ns core.functions)) same in
    let z : o ≡ after l (written_violations core) = y ∙ ap (λ n. after n (all_function_faults d core.functions)) (x ∙ ap (λ m. after m (all_data_faults d core.types)) names) ∙ three l (name_faults core) (all_data_faults d core.types) (all_function_faults d core.functions) in
    values ∙ ap (λ o. after o (value_faults 1 flags core.types)) z ∙ sym (after-append l (written_violations core) (value_faults 1 flags core.types))
