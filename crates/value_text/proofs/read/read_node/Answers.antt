use Rattle.std.proofs.Common.{refl, sym, ap, ◌∙◌, subst, ◌≡◌, ◌≤◌, Some, [], ◌∷◌, drop, length, List}
use Rattle.std.specs.Prelude.{Ok}
use Rattle.fip_language.specs.SoundTable.{AreTypes}
use Rattle.value_text.specs.declared.read.Event.TheVariants as E
use Rattle.value_text.specs.Reading.{Pending, Outline, Stepped, IsKnown, outline}
use Rattle.value_text.proofs.Steps.{value_bad, bare_step, open_step, open_bad, same_fields, known_fields, narrow_fields}
use Rattle.value_text.proofs.read.read_node.Goals as goal

pub returns-in-Err-clause-reads : goal.returns-in-Err-clause-reads
returns-in-Err-clause-reads c = λ sound s e. value_bad c.args.table.now c.args.bytes.now c.args.cursor.now.at c.args.ty c.in-Err.at (outline c.args.cursor.now) s e c.requires.next (c.in-Err.ensures.reads sound)

pub returns-in-None-clause-reads : goal.returns-in-None-clause-reads
returns-in-None-clause-reads c = λ sound.
    let r = c.in-Ok.ensures.reads sound in
    let f : (r.0).fields ≡ [] = sym (same_fields _ _ r.0 c.constructor_of-constructor.ensures.there r.1) ∙ c.in-None.ensures in
    λ s e. bare_step c.args.table.now c.args.bytes.now c.args.cursor.now.at c.in-Ok.found.1 c.args.ty c.in-Ok.found.0 (r.0).fields (outline c.args.cursor.now) s e c.requires.next c.requires.data f r.2

pub returns-in_ok-push_frame-in-Ok-sign-clause-reads : goal.returns-in_ok-push_frame-in-Ok-sign-clause-reads
returns-in_ok-push_frame-in-Ok-sign-clause-reads c = λ sound.
    let tb = c.args.table.now in
    let o = outline c.args.cursor.now in
    let r = c.in-Ok.ensures.reads sound in
    let k = c.in-Some.k in
    let fs = (c.constructor_of-constructor.result.now).fields in
    let ks = drop 1 fs in
    let same : fs ≡ (r.0).fields = same_fields _ _ r.0 c.constructor_of-constructor.ensures.there r.1 in
    let f : (r.0).fields ≡ k ∷ ks = sym same ∙ c.in-Some.ensures in
    let z : length fs ≡ length (r.0).fields = ap length same in
    let rows : List Pending = record { c = c.in-Ok.found.0; rest = ks; size = length fs } ∷ o.frames in
    λ s e. subst (λ (o' : Outline). Stepped tb c.args.bytes.now s c.args.cursor.now.at (Ok (Some E.Opened)) o' c.in-Ok-sign.at) (sym (ap (λ (o : Outline). record o { next = Some k }) c.in_ok-push_frame-in-Ok-sign.ensures.frames))
    (open_step tb c.args.bytes.now c.args.cursor.now.at c.in-Ok.found.1 c.in-Ok-sign.at c.args.ty c.in-Ok.found.0 k (length fs) ks (r.0).fields o rows s e c.requires.next c.requires.data f z refl r.2 (λ s. c.in-Ok-sign.ensures.reads tb s))

pub returns-in_ok-push_frame-in-Ok-sign-clause-known : goal.returns-in_ok-push_frame-in-Ok-sign-clause-known
returns-in_ok-push_frame-in-Ok-sign-clause-known c = λ sound known.
    let tb = c.args.table.now in
    let r = c.in-Ok.ensures.reads sound in
    let fs = (c.constructor_of-constructor.result.now).fields in
    let same : fs ≡ (r.0).fields = same_fields _ _ r.0 c.constructor_of-constructor.ensures.there r.1 in
    let types : AreTypes tb (c.in-Some.k ∷ drop 1 fs) = subst (AreTypes tb) (sym same ∙ c.in-Some.ensures) (known_fields tb sound c.args.ty c.in-Ok.found.0 r.0 c.requires.data r.1) in
    let small : length fs ≤ 16 = subst (λ n. n ≤ 16) (sym (ap length same)) (narrow_fields tb sound c.args.ty c.in-Ok.found.0 r.0 c.requires.data r.1) in
    subst (IsKnown tb) (sym (ap (λ (o : Outline). record o { next = Some c.in-Some.k }) c.in_ok-push_frame-in-Ok-sign.ensures.frames))
    (record { next = types.0; frames = (types.1, (small, known.frames)); lines = known.lines })

pub returns-in-Err-sign-clause-reads : goal.returns-in-Err-sign-clause-reads
returns-in-Err-sign-clause-reads c = λ sound.
    let tb = c.args.table.now in
    let r = c.in-Ok.ensures.reads sound in
    let fs = (c.constructor_of-constructor.result.now).fields in
    let same : fs ≡ (r.0).fields = same_fields _ _ r.0 c.constructor_of-constructor.ensures.there r.1 in
    λ s e. value_bad tb c.args.bytes.now c.args.cursor.now.at c.args.ty c.in-Err-sign.at (outline c.args.cursor.now) s e c.requires.next
    (open_bad tb c.args.bytes.now c.args.cursor.now.at c.in-Ok.found.1 c.args.ty c.in-Ok.found.0 c.in-Some.k c.in-Err-sign.at (drop 1 fs) (r.0).fields (sym same ∙ c.in-Some.ensures) r.2 (λ s. c.in-Err-sign.ensures.reads tb s))
