-- From what lowering says of a body to its function, and from the functions of instances to the code of a program.
use Rattle.std.proofs.Common.{◌≡◌, refl, sym, ap, ◌∙◌, subst, arith, true≢false, ℕ, ◌≤◌, ◌+◌, Bool, true, not, List, [], ◌∷◌, ◌++◌, length, map, Some, slice_get}
use Rattle.std.proofs.lemmas.Option.{none-some, same_Some, slice_get-map}
use Rattle.std.specs.Prelude.{drop, option_map}
use Rattle.fip_language.specs.declared.FunKind.{FunKind}
use Rattle.fip_language.specs.declared.FunKind.TheVariants.{Fip, Fbip, Fun}
use Rattle.fip_language.specs.Kinds.{is_fip}
use Rattle.fip_language.proofs.Words.{map_at}
use Rattle.fip_trees.specs.declared.groups.Member.{Member}
use Rattle.fip_trees.specs.declared.needs.Need.{Need}
use Rattle.fip_trees.specs.NeedsView.{needs_of}
use Rattle.fip_trees.specs.SoundProgram.{AreHeaderCredits, IsSoundProgram}
use Rattle.fip_trees.specs.Tree.{Instance, Program}
use Rattle.cell_code.specs.declared.code.Code.{Code}
use Rattle.cell_code.specs.declared.code.Function.{Function}
use Rattle.cell_code.specs.Plain.{PlainFunction, PlainCode, plain_label, plain_function, plain, function_at}
use Rattle.cell_code.proofs.CodeKinds.{code_is_fip}
use Rattle.cell_code.specs.CodeKinds as CodeKinds
use Rattle.lower_parts.specs.lower_frame.code_rules.Codes.{label_at}
use Rattle.lower_parts.specs.lowering_relation.Known.{Known}
use Rattle.lower_parts.specs.lowering_relation.Values.{Setting}
use Rattle.lower_parts.specs.lowering_relation.LoweredBodies.{Return, has_function}
use Rattle.lower_parts.specs.lowering_relation.LoweredFunctions.{IsSettingOf, known_at_start}
use Rattle.lower_parts.specs.lowering_relation.Written.{Written, size, settled, place_of}
use Rattle.lower_parts.specs.lowering_relation.WellMatched.{WellMatchedBlock, IsWellMatched}
use Rattle.lower_parts.proofs.lowering_relation.Placing.{has_all}
use Rattle.lower_parts.specs.lowering_relation.LaidBodies.{BlockLaid}
use Rattle.lower_parts.specs.lowering_relation.LaidFunctions.{FunctionLaid, IsLaid, AreLaid}
use Rattle.lower_parts.specs.lowering_relation.Standing.{AreRising, AreOpen, MapsStand}
use Rattle.lower_parts.specs.lower_frame.Credits.{is_bare}
use Rattle.lower_parts.specs.lower_frame.Labels.{HaveMaps}
use Rattle.lower_parts.specs.lower_frame.Registers.{registers}
use Rattle.lower_parts.specs.Bodies.{ScalarsRight, AskedBlock, BuiltWell, LaysIn, LaysBlock}
use Rattle.cell_lower.specs.Instances.{HaveEach, AddsEach}
use Rattle.cell_lower.specs.LaidProgram.{AskedInstance, IsAsked, IsLaidOf, laid_at, IsLaidOut}
use Rattle.lower_parts.specs.Laying.{HasPart, Underway, is_built}
use Rattle.lower_parts.specs.Leaving.{is_fbip}
use Rattle.cell_lower.specs.Shape.{Header, header, header_of, headers}
use Rattle.cell_lower.proofs.Headers.{IsOfInstance, instance_there, has_function_there}
use Rattle.cell_lower.proofs.Instances.{each_added}
use Rattle.cell_lower.proofs.Programs.{at_place}
use Rattle.lower_parts.proofs.Shedding.{start_length}
use Rattle.cell_lower.proofs.Smalls.{settled_length}
use Rattle.cell_lower.proofs.SoundScalars.{sound_scalars, header_credits}
use Rattle.lower_parts.proofs.Starting.{Starts, starts, start_next}

-- ---- one function

abbrev nothing : Written
nothing = record { instrs = []; places = []; maps = [] }

-- nothing is reported yet
begun : (s : Setting) (k : Known) → Starts k → k.next ≤ registers k → Underway s.types k nothing
begun s k h room = record {
  accounts = h.accounts;
  named = h.named;
  room = room;
  rising = tt;
  shown = λ map e. absurd (none-some map e);
}

built_none : (s : Setting) (k : Known) → Starts k → BuiltWell s.types 0 k
built_none s k h r = record {
  built = record { there = λ t d e. absurd (true≢false (sym (ap is_built e) ∙ (h.plain r).0)) };
  bare = λ t d e. absurd (true≢false (sym (ap (λ h. is_bare (Some h)) e) ∙ (h.plain r).1));
  later = λ e. h.plain r;
}

-- what is written of a body, from its start on
record Body (s : Setting) (fip : Bool) (n : ℕ) (d : Instance) (l : Known) (w : Written) (f : PlainFunction) : Type 0 where
  pub room : (known_at_start s n d).next ≤ registers (known_at_start s n d)
  pub lays : LaysBlock s fip (known_at_start s n d) nothing d.body Return l w
  pub instrs : f.instrs ≡ map (settled (place_of w.places)) w.instrs
  pub maps : f.labels ≡ w.maps
  pub have : HaveMaps w.places f.labels
  pub opens : AreOpen f.labels
  pub params : f.params ≡ d.params
  pub credits : f.credits ≡ d.credits
  pub results : f.results ≡ d.results
  pub registers' : f.registers ≡ n

module _ (s : Setting) (fip : Bool) (n : ℕ) (d : Instance) (l : Known) (w : Written) (f : PlainFunction) (h : Body s fip n d l w f) (ns : List Need) (credits : AreHeaderCredits d.credits) (asked : AskedInstance s ns d) where
  abbrev k : Known
  k = known_at_start s n d

  started : Starts k
  started = starts s n d h.room credits.sized

  lays_in : LaysIn s k nothing Return l w (λ c f. BlockLaid c s fip f 0 k d.body Return (size w) l)
  lays_in = h.lays.by (begun s k started h.room) tt

  part : HasPart 0 w (place_of w.places) f
  part = record {
    code = has_all w f.instrs h.instrs;
    reported = λ p low high. ap (λ ms. label_at ms p) h.maps;
    labels = λ label p at low. h.have.by label p at low;
  }

  long : length f.instrs ≡ size w
  long = ap length h.instrs ∙ settled_length (place_of w.places) w.instrs

  body_laid : (c : PlainCode) → c.types ≡ s.types → BlockLaid c s fip f 0 (known_at_start s f.registers d) d.body Return (length f.instrs) l
  body_laid c types =
      subst (λ m. BlockLaid c s fip f 0 (known_at_start s m d) d.body Return (length f.instrs) l) (sym h.registers')
      (subst (λ e. BlockLaid c s fip f 0 k d.body Return e l) (sym long) (lays_in.laid c (place_of w.places) f types (h.registers' ∙ sym (start_length s n d)) part (built_none s k started)).laid)

  function_laid : (c : PlainCode) → c.types ≡ s.types → FunctionLaid c s fip f d
  function_laid c types = record {
    params = h.params;
    credits = h.credits;
    results = h.results;
    room = (let a = start_next s n d asked.binders in let b = start_length s n d in let e = h.registers' in let r = h.room in omega (arith, a, b, e, r));
    after = l;
    body = body_laid c types;
  }

  maps_stand : MapsStand f
  maps_stand = record {
    rising = subst (λ m. AreRising m 0 f.labels) (sym long) (subst (AreRising (size w) 0) (sym h.maps) lays_in.onward);
    opens = h.opens;
  }

pub fip_of : (k : FunKind) (b : Bool) → b ≡ is_fbip k → has_function k ≡ true → not b ≡ is_fip k
fip_of Fip b e has = ap not e
fip_of Fbip b e has = ap not e
fip_of Fun b e has = absurd (true≢false (sym has))

pub laid_of : (s s' : Setting) (b : Bool) (n : ℕ) (ns ns' : List Need) (d : Instance) (k l : Known) (v w : Written) (f : Function) → s' ≡ s → ns' ≡ ns → k ≡ known_at_start s n d → v ≡ nothing → k.next ≤ registers k → (has_function d.kind ≡ true → not b ≡ is_fip d.kind) → (AskedBlock s' (drop 1 ns') d.body → LaysBlock s' (not b) k v d.body Return l w) → f.instrs.items ≡ map (settled (place_of w.places)) w.instrs → map plain_label f.labels.items ≡ w.maps → HaveMaps w.places (map plain_label f.labels.items) → AreOpen (map plain_label f.labels.items) → header f ≡ header_of n d → IsLaidOf s ns d f
laid_of s s' b n ns ns' d k l v w f same needs start empty room fip h is maps have opens heads = record {
  by = λ scalars credits well asked c types. function_laid s (is_fip d.kind) n d l w (plain_function f) (body scalars well asked) ns credits asked c types;
  stand = λ scalars credits well asked. maps_stand s (is_fip d.kind) n d l w (plain_function f) (body scalars well asked) ns credits asked;
}
  where
    lays : ScalarsRight s → WellMatchedBlock s.types d.body → AskedInstance s ns d → LaysBlock s (is_fip d.kind) (known_at_start s n d) nothing d.body Return l w
    lays scalars well asked =
        subst (λ x. LaysBlock s x (known_at_start s n d) nothing d.body Return l w) (fip asked.ruled)
        (subst (λ x. LaysBlock s (not b) (known_at_start s n d) x d.body Return l w) empty
        (subst (λ x. LaysBlock s (not b) x v d.body Return l w) start
        (subst (λ (x : Setting). AskedBlock x (drop 1 ns) d.body → LaysBlock x (not b) k v d.body Return l w) same
        (subst (λ x. AskedBlock s' (drop 1 x) d.body → LaysBlock s' (not b) k v d.body Return l w) needs h)
        (record { scalars = scalars; matched = well; founded = asked.founded; needs = asked.needs }))))

    body : ScalarsRight s → WellMatchedBlock s.types d.body → AskedInstance s ns d → Body s (is_fip d.kind) n d l w (plain_function f)
    body scalars well asked = record {
      room = subst (λ (x : Known). x.next ≤ registers x) start room;
      lays = lays scalars well asked;
      instrs = is;
      maps = maps;
      have = have;
      opens = opens;
      params = ap (λ (h : Header). h.signature.params) heads;
      credits = ap (λ (h : Header). h.signature.credits) heads;
      results = ap (λ (h : Header). h.signature.results) heads;
      registers' = ap (λ (h : Header). h.registers) heads;
    }

-- ---- several

-- what an instance that isn't plain adds
pub laid_added : (s : Setting) (nss : List (List Need)) (i : ℕ) (b : Bool) (d : Instance) (fs gs : List Function) (f : Function) → b ≡ true → gs ≡ fs ++ f ∷ [] → IsLaidOf s (needs_of nss i) d f → AddsEach (laid_at s nss) i b d fs gs
laid_added s nss i b d fs gs f e g h = each_added (laid_at s nss) i b d fs gs f e g h

-- ---- the code of a program

none_more : (a : ℕ) → 0 + a ≡ a
none_more a = omega arith

module _ (p : Program) (s : Setting) (ms : List Member) (nss : List (List Need)) (c : Code) (so : IsSettingOf p s) (types : c.types ≡ p.types) (heads : map header c.functions.items ≡ headers ms p.instances) (each : HaveEach (laid_at s nss) p.instances 0 0 c.functions.items) (sound : ∥ IsSoundProgram p ∥₁) (well : IsWellMatched p) (asked : IsAsked p nss) where
  scalars_right : ScalarsRight s
  scalars_right = sound_scalars p s sound so

  same_types : (plain c).types ≡ s.types
  same_types = types ∙ sym so.types

  -- a function, with the instance that it is of
  record IsOf (n : ℕ) (f : PlainFunction) : Type 0 where
    pub held : Function
    pub same : plain_function held ≡ f
    pub there : slice_get c.functions.items n ≡ Some held
    pub of' : IsOfInstance p.instances n (header held)

  is_of : (n : ℕ) (f : PlainFunction) → function_at (plain c) n ≡ Some f → IsOf n f
  is_of n f e =
      let x = map_at plain_function c.functions.items n f e in
      record {
        held = x.0;
        same = x.2;
        there = x.1;
        of' = instance_there ms 0 p.instances n (header x.0) (ap (λ hs. slice_get hs n) (sym heads) ∙ slice_get-map header c.functions.items n ∙ ap (option_map header) x.1);
      }

  module _ (n : ℕ) (f : PlainFunction) (x : IsOf n f) where
    abbrev g : ℕ
    g = x.of'.place

    abbrev d : Instance
    d = x.of'.instance

    laid_here : IsLaidOf s (needs_of nss g) d x.held
    laid_here = subst (λ i. IsLaidOf s (needs_of nss i) d x.held) (none_more g) (each.by g n d x.held x.of'.function x.of'.there (ap (slice_get c.functions.items) (none_more n) ∙ x.there))

    well_here : WellMatchedBlock s.types d.body
    well_here = subst (λ tb. WellMatchedBlock tb d.body) (sym so.types) (at_place (λ (x : Instance). WellMatchedBlock p.types x.body) p.instances g d well x.of'.there)

    credits_here : AreHeaderCredits d.credits
    credits_here = header_credits p sound g d x.of'.there

    asked_here : AskedInstance s (needs_of nss g) d
    asked_here = asked.each s so g d x.of'.there (has_function_there p.instances g n d x.of'.function x.of'.there)

    is_laid : IsLaid (plain c) s p n f
    is_laid = record {
      number = g;
      instance = d;
      there = x.of'.there;
      function = so.functions g ∙ x.of'.function;
      kind = sym (ap (λ (f : PlainFunction). f.kind) x.same) ∙ ap (λ (h : Header). h.signature.kind) x.of'.is;
      laid = subst (λ (f : PlainFunction). FunctionLaid (plain c) s (CodeKinds.is_fip f.kind) f d) x.same
          (subst (λ b. FunctionLaid (plain c) s b (plain_function x.held) d) (sym (ap (λ (h : Header). CodeKinds.is_fip h.signature.kind) x.of'.is ∙ code_is_fip d.kind)) (laid_here.by scalars_right credits_here well_here asked_here (plain c) same_types));
    }

    does_stand : MapsStand f
    does_stand = subst MapsStand x.same (laid_here.stand scalars_right credits_here well_here asked_here)

  pub laid_out : IsLaidOut p (plain c)
  laid_out = record {
    setting = s;
    laid = record { setting = so; each = λ n f e. is_laid n f (is_of n f e) };
    stand = λ n f e. does_stand n f (is_of n f e);
  }
