use Rattle.std.proofs.Common.{◌≡◌, ◌≤◌, ℕ, suc, ◌-◌, refl, sym, ap, ◌∙◌, subst, Some, ◌∷◌, take, drop, length, List, arith}
use Rattle.std.specs.Prelude.{slice_set, Ok}
use Rattle.fip_language.specs.declared.limits.TheConstants.{MOST_FIELDS}
use Rattle.fip_language.specs.SoundTable.{AreTypes}
use Rattle.value_text.specs.declared.read.Event.TheVariants as E
use Rattle.value_text.specs.Reading.{Pending, Outline, KnownRows, Stepped, IsKnown, outline, pending, pending_rows}
use Rattle.value_text.proofs.Steps.{top_row, set_row, close_step, comma_step, field_bad}
use Rattle.value_text.proofs.read.read_field.Goals as goal

pub returns-in-Ok-clause-reads : goal.returns-in-Ok-clause-reads
returns-in-Ok-clause-reads c =
    let o = outline c.args.cursor.now in
    let frames = c.args.cursor.now.frames.items in
    let frame = c.index-frame.result.now in
    let top = c.len-top.result - 1 in
    let left : suc top ≡ length frames = let a = c.requires.open in let b = c.len-top.ensures in omega (arith, a, b) in
    let ps = pending_rows (take top frames) in
    let rows : pending_rows frames ≡ pending frame ∷ ps = top_row frames top frame left c.index-frame.ensures in
    let o₁ : Outline = record o { frames = ps } in
    let whole : record o { frames = pending frame ∷ ps } ≡ o = ap (λ (ps : List Pending). record o { frames = ps }) (sym rows) in
    λ tb known s e.
    subst (λ (ps : List Pending). Stepped tb c.args.bytes.now s c.args.cursor.now.at (Ok (Some (E.Closed frame.tag (length c.fields.result.now)))) (record o { frames = ps }) c.in-Ok.at) (ap pending_rows (sym c.cut.ensures))
    (subst (λ (n : ℕ). Stepped tb c.args.bytes.now s c.args.cursor.now.at (Ok (Some (E.Closed frame.tag n))) o₁ c.in-Ok.at) (sym (ap length c.fields.ensures.same))
    (close_step tb c.args.bytes.now c.args.cursor.now.at c.in-Ok.at o₁ (pending frame) s (whole ∙ e) c.requires.next c.in-None.ensures (λ s. c.in-Ok.ensures.reads tb s)))

pub returns-in-Err-clause-reads : goal.returns-in-Err-clause-reads
returns-in-Err-clause-reads c =
    let o = outline c.args.cursor.now in
    let frames = c.args.cursor.now.frames.items in
    let frame = c.index-frame.result.now in
    let top = c.len-top.result - 1 in
    let left : suc top ≡ length frames = let a = c.requires.open in let b = c.len-top.ensures in omega (arith, a, b) in
    let ps = pending_rows (take top frames) in
    let rows : pending_rows frames ≡ pending frame ∷ ps = top_row frames top frame left c.index-frame.ensures in
    let o₁ : Outline = record o { frames = ps } in
    let whole : record o { frames = pending frame ∷ ps } ≡ o = ap (λ (ps : List Pending). record o { frames = ps }) (sym rows) in
    λ tb known s e. field_bad tb c.args.bytes.now c.args.cursor.now.at c.in-Err.at o₁ (pending frame) s (whole ∙ e) c.requires.next (λ h s. c.in-Err.ensures.reads tb s) (λ j js h. let z = sym c.in-None.ensures ∙ h in cc)

pub returns-in-Ok-sign-clause-reads : goal.returns-in-Ok-sign-clause-reads
returns-in-Ok-sign-clause-reads c =
    let o = outline c.args.cursor.now in
    let frames = c.args.cursor.now.frames.items in
    let frame = c.index-frame.result.now in
    let top = c.len-top.result - 1 in
    let left : suc top ≡ length frames = let a = c.requires.open in let b = c.len-top.ensures in omega (arith, a, b) in
    let ps = pending_rows (take top frames) in
    let rows : pending_rows frames ≡ pending frame ∷ ps = top_row frames top frame left c.index-frame.ensures in
    let o₁ : Outline = record o { frames = ps } in
    let whole : record o { frames = pending frame ∷ ps } ≡ o = ap (λ (ps : List Pending). record o { frames = ps }) (sym rows) in
    let k = c.in-Some.k in
    let ks = drop (suc frame.begun) (frame.constructor.now).fields in
    λ tb known s e.
    let small = ((subst (KnownRows tb) rows known.frames).1).0 in
    let set : pending_rows (slice_set frames top c.one_further.result) ≡ record (pending frame) { rest = ks } ∷ ps = set_row frames top c.one_further.result left ∙ ap (λ (p : Pending). p ∷ ps) (c.one_further.ensures k ks small c.in-Some.ensures) in
    subst (λ (ps : List Pending). Stepped tb c.args.bytes.now s c.args.cursor.now.at (Ok (Some E.Comma)) (record o { next = Some k; frames = ps }) c.in-Ok-sign.at) (sym set)
    (comma_step tb c.args.bytes.now c.args.cursor.now.at c.in-Ok-sign.at k ks o₁ (pending frame) (record (pending frame) { rest = ks } ∷ ps) s (whole ∙ e) c.requires.next c.in-Some.ensures refl (λ s. c.in-Ok-sign.ensures.reads tb s))

pub returns-in-Err-sign-clause-reads : goal.returns-in-Err-sign-clause-reads
returns-in-Err-sign-clause-reads c =
    let o = outline c.args.cursor.now in
    let frames = c.args.cursor.now.frames.items in
    let frame = c.index-frame.result.now in
    let top = c.len-top.result - 1 in
    let left : suc top ≡ length frames = let a = c.requires.open in let b = c.len-top.ensures in omega (arith, a, b) in
    let ps = pending_rows (take top frames) in
    let rows : pending_rows frames ≡ pending frame ∷ ps = top_row frames top frame left c.index-frame.ensures in
    let o₁ : Outline = record o { frames = ps } in
    let whole : record o { frames = pending frame ∷ ps } ≡ o = ap (λ (ps : List Pending). record o { frames = ps }) (sym rows) in
    λ tb known s e. field_bad tb c.args.bytes.now c.args.cursor.now.at c.in-Err-sign.at o₁ (pending frame) s (whole ∙ e) c.requires.next (λ h. let z = sym c.in-Some.ensures ∙ h in cc) (λ j js h s. c.in-Err-sign.ensures.reads tb s)

pub returns-in-Ok-clause-known : goal.returns-in-Ok-clause-known
returns-in-Ok-clause-known c =
    let o = outline c.args.cursor.now in
    let frames = c.args.cursor.now.frames.items in
    let frame = c.index-frame.result.now in
    let top = c.len-top.result - 1 in
    let left : suc top ≡ length frames = let a = c.requires.open in let b = c.len-top.ensures in omega (arith, a, b) in
    let ps = pending_rows (take top frames) in
    let rows : pending_rows frames ≡ pending frame ∷ ps = top_row frames top frame left c.index-frame.ensures in
    let o₁ : Outline = record o { frames = ps } in
    let whole : record o { frames = pending frame ∷ ps } ≡ o = ap (λ (ps : List Pending). record o { frames = ps }) (sym rows) in
    λ tb known.
    let k = subst (KnownRows tb) rows known.frames in
    subst (λ (ps : List Pending). IsKnown tb (record o { frames = ps })) (ap pending_rows (sym c.cut.ensures)) (record { next = known.next; frames = (k.1).1; lines = known.lines })

pub returns-in-Ok-clause-narrow : goal.returns-in-Ok-clause-narrow
returns-in-Ok-clause-narrow c =
    let o = outline c.args.cursor.now in
    let frames = c.args.cursor.now.frames.items in
    let frame = c.index-frame.result.now in
    let top = c.len-top.result - 1 in
    let left : suc top ≡ length frames = let a = c.requires.open in let b = c.len-top.ensures in omega (arith, a, b) in
    let ps = pending_rows (take top frames) in
    let rows : pending_rows frames ≡ pending frame ∷ ps = top_row frames top frame left c.index-frame.ensures in
    let o₁ : Outline = record o { frames = ps } in
    let whole : record o { frames = pending frame ∷ ps } ≡ o = ap (λ (ps : List Pending). record o { frames = ps }) (sym rows) in
    λ tb known.
    let small = ((subst (KnownRows tb) rows known.frames).1).0 in
    subst (λ n. n ≤ MOST_FIELDS) (sym (ap length c.fields.ensures.same)) small

pub returns-in-Ok-sign-clause-known : goal.returns-in-Ok-sign-clause-known
returns-in-Ok-sign-clause-known c =
    let o = outline c.args.cursor.now in
    let frames = c.args.cursor.now.frames.items in
    let frame = c.index-frame.result.now in
    let top = c.len-top.result - 1 in
    let left : suc top ≡ length frames = let a = c.requires.open in let b = c.len-top.ensures in omega (arith, a, b) in
    let ps = pending_rows (take top frames) in
    let rows : pending_rows frames ≡ pending frame ∷ ps = top_row frames top frame left c.index-frame.ensures in
    let o₁ : Outline = record o { frames = ps } in
    let whole : record o { frames = pending frame ∷ ps } ≡ o = ap (λ (ps : List Pending). record o { frames = ps }) (sym rows) in
    let k = c.in-Some.k in
    let ks = drop (suc frame.begun) (frame.constructor.now).fields in
    λ tb known.
    let r = subst (KnownRows tb) rows known.frames in
    let small = (r.1).0 in
    let split : AreTypes tb (k ∷ ks) = subst (AreTypes tb) c.in-Some.ensures r.0 in
    let set : pending_rows (slice_set frames top c.one_further.result) ≡ record (pending frame) { rest = ks } ∷ ps = set_row frames top c.one_further.result left ∙ ap (λ (p : Pending). p ∷ ps) (c.one_further.ensures k ks small c.in-Some.ensures) in
    subst (λ (ps : List Pending). IsKnown tb (record o { next = Some k; frames = ps })) (sym set) (record { next = split.0; frames = (split.1, (small, (r.1).1)); lines = known.lines })
