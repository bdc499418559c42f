-- The machine accepts just the programs, and stops at the least token with which no program begins.
use Rattle.std.proofs.Common.{◌≡◌, ℕ, suc, List, [], ◌∷◌, ◌++◌, Some, refl, sym, ap, subst, ◌∙◌, take, append-nil, append_assoc}
use Rattle.fip_language.specs.declared.Place.{Place}
use Rattle.fip_language.specs.declared.FunKind.{FunKind}
use Rattle.fip_language.specs.declared.CreditMark.{CreditMark}
use Rattle.fip_language.specs.Core.{DataConstructor, Data}
use Rattle.fip_language.specs.Surface.{Function, Declaration, DataDeclaration, FunctionDeclaration, Program}
use Rattle.fip_grammar.specs.declared.Sign.TheVariants as S
use Rattle.fip_grammar.specs.Token.{Word, Lower, Mark, Token, token}
use Rattle.fip_grammar.specs.Grammar.{Sees, Kind', FunctionParts, DataConstructors, Spells}
use Rattle.fip_grammar.specs.Machine.{FunctionHead, State, Next, Machine, InFunction, InData, InType, InPattern, InBody, Stays, Declares, Top, Refused, step_top, with_constructor, function_of, step, start, then_next, machine_step, ended_in, machine_end}
use Rattle.fip_language.specs.declared.FunKind.TheVariants as K
use Rattle.fip_grammar.proofs.Residual.{more_parameters, more_statics, FromStart, new_head, FunctionNameFrom, more_constructors, more_names, FromConstructor, new_data, FromDataName, From, Fits}
use Rattle.fip_language.specs.Prefix.{Accepted, Stopped, run, IsPlace}
use Rattle.fip_language.proofs.Prefix.{IsExact, stops_at_place, accepts, accepted}
use Rattle.fip_grammar.proofs.Functions.{head, take_function, give_function}
use Rattle.fip_grammar.proofs.DataTypes.{take_data, give_data}
use Rattle.fip_grammar.proofs.Types.{take_in_type, give_in_type}
use Rattle.fip_grammar.proofs.Patterns.{take_in_pattern, give_in_pattern}
use Rattle.fip_grammar.proofs.Bodies.{take_body, give_body}
use Rattle.fip_grammar.proofs.Ends.{ends_in}
use Rattle.fip_grammar.proofs.Alive.{alive_state}

take_kind : (k : FunKind) (cs : List CreditMark) (w : Word) (p : Place) (ts keyword name : List Token) (ds : List Declaration) → Kind' (token w p ∷ ts) k cs keyword → Sees S.Fun keyword name → FunctionNameFrom k cs name ds → Fits (step_top w p) ts ds
take_kind K.Fip cs w p ts keyword name ds c s n = head step_top ds c.1.1 (cs, keyword, name, c.2, s, n)
take_kind K.Fbip cs w p ts keyword name ds c s n = head step_top ds c.1.1 (cs, keyword, name, c.2, s, n)
take_kind K.Fun [] w p ts keyword name ds c s n = head step_top ds (c ∙ s.1) n
take_kind K.Fun (x ∷ cs) w p ts keyword name ds c s n = absurd c

take_fun : (f : Function) (more : List Declaration) (w : Word) (p : Place) (ts keyword name after rest : List Token) → Kind' (token w p ∷ ts) f.kind f.credits keyword → Sees S.Fun keyword name → name ≡ token (Lower f.name) f.place ∷ after → FunctionParts after f.statics f.parameters f.result f.body rest → Spells rest more → Fits (step_top w p) ts (FunctionDeclaration f ∷ more)
take_fun f more w p ts keyword name after rest c s n q m =
    let h = new_head f.kind f.credits f.name f.place in
    let c0 = FunctionDeclaration f ∷ more in
    let parts : FromStart h after c0 = (f.statics, q.0, q.7, (q.1, q.8, (f.parameters, q.2, q.9, (q.3, f.result, q.4, q.10, q.11, (q.5, f.body, q.6, q.12, q.13, (rest, q.14, (more, refl, m))))))) in
    let named : FunctionNameFrom f.kind f.credits name c0 = (f.name, f.place, after, n, parts) in
    take_kind f.kind f.credits w p ts keyword name c0 c s named

from_constructors : (d : Data) (cs : List DataConstructor) (ts rest : List Token) (more : List Declaration) → d.constructors ≡ cs → DataConstructors ts cs rest → Spells rest more → FromConstructor (more_names (new_data d.name d.place) d.parameters) ts (DataDeclaration d ∷ more)
from_constructors d [] ts rest more e c m = absurd c
from_constructors d (x ∷ cs) ts rest more e c m = (x, c.0, c.1, (cs, rest, c.2, (more, ap (λ l. DataDeclaration (record { name = d.name; place = d.place; parameters = d.parameters; constructors = l }) ∷ more) e, m)))

take_top : (w : Word) (p : Place) (ts : List Token) (ds : List Declaration) → Spells (token w p ∷ ts) ds → Fits (step_top w p) ts ds
take_top w p ts [] c = cc
take_top w p ts (DataDeclaration d ∷ more) c =
    let k = c.1 in
    head step_top (DataDeclaration d ∷ more) k.4.1 (d.name, d.place, k.1, k.5, (d.parameters, k.2, k.6, (k.3, k.7, from_constructors d d.constructors k.3 c.0 more refl k.8 c.2)))
take_top w p ts (FunctionDeclaration f ∷ more) c =
    let k = c.1 in
    take_fun f more w p ts k.0 k.1 k.2 c.0 k.3 k.4 k.5 k.6 c.2

give_parts : (h : FunctionHead) (ts : List Token) (ds : List Declaration) → h.statics ≡ [] → h.parameters ≡ [] → FromStart h ts ds → (f : Function) × (more : List Declaration) × (rest : List Token) × (ds ≡ FunctionDeclaration f ∷ more) × (f.kind ≡ h.kind) × (f.credits ≡ h.credits) × (f.name ≡ h.name) × (f.place ≡ h.place) × FunctionParts ts f.statics f.parameters f.result f.body rest × Spells rest more
give_parts h ts ds s0 p0 c =
    let o = c.3 in
    let q = o.2 in
    let r = q.3 in
    let b = r.5 in
    let e = b.5 in
    let d = e.2 in
    let f = function_of (more_parameters (more_statics h c.0) q.0) r.1 b.1 in
    let ss : c.0 ≡ h.statics ++ c.0 = ap (λ l. l ++ c.0) (sym s0) in
    let ps : q.0 ≡ h.parameters ++ q.0 = ap (λ l. l ++ q.0) (sym p0) in
    let parts : FunctionParts ts c.0 q.0 r.1 b.1 e.0 = (c.1, o.0, q.1, r.0, r.2, b.0, b.2, c.2, o.1, q.2, r.3, r.4, b.3, b.4, e.1) in
    (f, d.0, e.0, d.1, refl, refl, refl, refl, subst (λ l. FunctionParts ts l (h.parameters ++ q.0) r.1 b.1 e.0) ss (subst (λ l. FunctionParts ts c.0 l r.1 b.1 e.0) ps parts), d.2)

give_fun : (k : FunKind) (cs : List CreditMark) (ts keyword name : List Token) (ds : List Declaration) → Kind' ts k cs keyword → Sees S.Fun keyword name → FunctionNameFrom k cs name ds → Spells ts ds
give_fun k cs ts keyword name ds c s n =
    let h = new_head k cs n.0 n.1 in
    let g = give_parts h n.2 ds refl refl n.4 in
    let f = g.0 in
    let kind : Kind' ts f.kind f.credits keyword = subst (λ x. Kind' ts x f.credits keyword) (sym g.4) (subst (λ x. Kind' ts k x keyword) (sym g.5) c) in
    let named : name ≡ token (Lower f.name) f.place ∷ n.2 = n.3 ∙ ap (λ x. token (Lower x) n.1 ∷ n.2) (sym g.6) ∙ ap (λ x. token (Lower f.name) x ∷ n.2) (sym g.7) in
    let whole : Spells ts (FunctionDeclaration f ∷ g.1) = (g.2, (keyword, name, n.2, kind, s, named, g.8), g.9) in
    subst (λ l. Spells ts l) (sym g.3) whole

give_data_top : (p : Place) (ts : List Token) (ds : List Declaration) → FromDataName ts ds → Spells (token (Mark S.Data) p ∷ ts) ds
give_data_top p ts ds c =
    let s = c.4 in
    let b = s.3 in
    let k = b.2 in
    let a = k.3 in
    let d = a.3 in
    let whole : Data = more_constructors (with_constructor (more_names (new_data c.0 c.1) s.0) k.0) a.0 in
    let made : Spells (token (Mark S.Data) p ∷ ts) (DataDeclaration whole ∷ d.0) = (a.1, (ts, c.2, s.1, b.0, (p, refl), c.3, s.2, b.1, (k.1, k.2, a.2)), d.2) in
    subst (λ l. Spells (token (Mark S.Data) p ∷ ts) l) (sym d.1) made

give_top : (w : Word) (p : Place) (ts : List Token) (ds : List Declaration) → Fits (step_top w p) ts ds → Spells (token w p ∷ ts) ds
give_top (Mark S.Data) p ts ds c = give_data_top p ts ds c
give_top (Mark S.Fip) p ts ds c = give_fun K.Fip c.0 (token (Mark S.Fip) p ∷ ts) c.1 c.2 ds (ts, (p, refl), c.3) c.4 c.5
give_top (Mark S.Fbip) p ts ds c = give_fun K.Fbip c.0 (token (Mark S.Fbip) p ∷ ts) c.1 c.2 ds (ts, (p, refl), c.3) c.4 c.5
give_top (Mark S.Fun) p ts ds c = give_fun K.Fun [] (token (Mark S.Fun) p ∷ ts) (token (Mark S.Fun) p ∷ ts) ts ds refl (p, refl) c
give_top _ p ts ds c = absurd c

take_state : (s : State) (w : Word) (p : Place) (ts : List Token) (ds : List Declaration) → From s (token w p ∷ ts) ds → Fits (step s w p) ts ds
take_state Top w p ts ds c = take_top w p ts ds c
take_state (InFunction h) w p ts ds c = take_function h w p ts ds c
take_state (InData h) w p ts ds c = take_data h w p ts ds c
take_state (InType x o u) w p ts ds c = take_in_type x o u w p ts ds c
take_state (InPattern x o b m) w p ts ds c = take_in_pattern x o b m w p ts ds c
take_state (InBody x b) w p ts ds c = take_body x b w p ts ds c

give_state : (s : State) (w : Word) (p : Place) (ts : List Token) (ds : List Declaration) → Fits (step s w p) ts ds → From s (token w p ∷ ts) ds
give_state Top w p ts ds c = give_top w p ts ds c
give_state (InFunction h) w p ts ds c = give_function h w p ts ds c
give_state (InData h) w p ts ds c = give_data h w p ts ds c
give_state (InType x o u) w p ts ds c = give_in_type x o u w p ts ds c
give_state (InPattern x o b m) w p ts ds c = give_in_pattern x o b m w p ts ds c
give_state (InBody x b) w p ts ds c = give_body x b w p ts ds c

-- the declarations that ended, and what completes the state
abbrev Completes : Machine → List Token → Program → Type 0
Completes m ts x = (ds : List Declaration) × (x ≡ m.done ++ ds) × From m.state ts ds

takes_next : (done : List Declaration) (n : Next) (ts : List Token) (x : Program) (ds : List Declaration) → x ≡ done ++ ds → Fits n ts ds → (m : Machine) × (then_next done n ≡ Some m) × Completes m ts x
takes_next done Refused ts x ds e c = absurd c
takes_next done (Stays s) ts x ds e c = (record { done = done; state = s }, refl, (ds, e, c))
takes_next done (Declares d) ts x ds e c = (record { done = done ++ d ∷ []; state = Top }, refl, (c.0, e ∙ ap (λ l. done ++ l) c.1 ∙ sym (append_assoc done (d ∷ []) c.0), c.2))

gives_next : (done : List Declaration) (n : Next) (m : Machine) (ts : List Token) (x : Program) → then_next done n ≡ Some m → Completes m ts x → (ds : List Declaration) × (x ≡ done ++ ds) × Fits n ts ds
gives_next done Refused m ts x e c = cc
gives_next done (Stays s) m ts x e c =
    let same : m ≡ record { done = done; state = s } = cc in
    subst (λ z. Completes z ts x) same c
gives_next done (Declares d) m ts x e c =
    let same : m ≡ record { done = done ++ d ∷ []; state = Top } = cc in
    let k = subst (λ z. Completes z ts x) same c in
    (d ∷ k.0, k.1 ∙ append_assoc done (d ∷ []) k.0, (k.0, refl, k.2))

ended_none : (done : List Declaration) (s : State) (x : Program) → ended_in done s ≡ Some x → Completes (record { done = done; state = s }) [] x
ended_none done Top x e = let h : x ≡ done = cc in ([], h ∙ sym (append-nil done), refl)
ended_none done (InFunction h) x e = cc
ended_none done (InData h) x e = cc
ended_none done (InType q o u) x e = cc
ended_none done (InPattern q o b m) x e = cc
ended_none done (InBody q b) x e = cc

abbrev Good : Machine → Type 0
Good m = Unit {0}

exact : IsExact machine_step machine_end Good Completes
exact = record {
  takes = λ m t ts x g c. takes_next m.done (step m.state t.word t.place) ts x c.0 c.1 (take_state m.state t.word t.place ts c.0 c.2);
  gives = λ m m' t ts x g e c. let k = gives_next m.done (step m.state t.word t.place) m' ts x e c in (k.0, k.1, give_state m.state t.word t.place ts k.0 k.2);
  keeps = λ m m' t g e. tt;
  alive = λ m g. let k = alive_state m.state in (k.0, m.done ++ k.1, (k.1, refl, k.2));
  ends = λ m x g c. ends_in m.done m.state c.0 c.2 ∙ ap Some (sym c.1);
  ended = λ m x g e. ended_none m.done m.state x e;
}

to_spells : (ts : List Token) (x : Program) → Completes start ts x → Spells ts x
to_spells ts x c = subst (λ l. Spells ts l) (sym c.1) c.2

of_spells : (ts : List Token) (x : Program) → Spells ts x → Completes start ts x
of_spells ts x c = (x, refl, c)

-- what the machine accepts is spelled so
pub accepted_is_spelled : (ts : List Token) (x : Program) → run machine_step machine_end start ts 0 ≡ Accepted x → Spells ts x
accepted_is_spelled ts x e = to_spells ts x (accepted machine_step machine_end Good Completes exact ts x start 0 tt e)

-- what is spelled is accepted
pub spelled_is_accepted : (ts : List Token) (x : Program) → Spells ts x → run machine_step machine_end start ts 0 ≡ Accepted x
spelled_is_accepted ts x c = accepts machine_step machine_end Good Completes exact ts start 0 x tt (of_spells ts x c)

place_of_spells : (ts : List Token) (t : ℕ) → IsPlace (Completes start) ts t → IsPlace Spells ts t
place_of_spells ts t c = record {
  within = c.within;
  before = let b = c.before in (b.0, b.1, to_spells (take t ts ++ b.0) b.1 b.2);
  there = λ l b. c.there l (b.0, b.1, of_spells (take (suc t) ts ++ b.0) b.1 b.2);
  at_end = λ e x k. c.at_end e x (of_spells ts x k);
}

-- where the machine stops is the least place at which no program goes on
pub stopped_is_place : (ts : List Token) (t : ℕ) → run machine_step machine_end start ts 0 ≡ Stopped t → IsPlace Spells ts t
stopped_is_place ts t e = place_of_spells ts t (stops_at_place machine_step machine_end Good Completes exact start ts t tt e)
