use Rattle.std.proofs.Common.{refl, None, rules}
use Rattle.std.proofs.Common.{Some as some}
use Rattle.x_decode.proofs.Cases.{Told, told, neither, whole-not_short, whole-not_long, some-instr, some-in_range, some-not_bad, none-instr, none-bad, cut-instr, cut-short, dead-instr, dead-not_short, dead-bad}
use Rattle.x_decode.proofs.Computing.{whole-seen, whole-stays, dead-seen, dead-stays, few-seen, many-seen, many-stays}
use Rattle.x_decode.proofs.decoding.decode.Goals as goal

-- an instruction, and its row
pub returns-in-Some : goal.returns-in-Some
returns-in-Some c =
    let bytes = c.args.bytes.now in let f = c.in-Whole.fields in let n = c.in-Whole.len in let d = c.in-Some.decoded in
    let t : Told bytes _ = told c.in-Whole.ensures.whole c.in-Whole.ensures.short in
    record {
      instr = some-instr bytes f n t d c.in-Some.ensures.some;
      short = neither (λ e. cc) (whole-not_short bytes f n t);
      too_long = neither (λ e. cc) (whole-not_long bytes f n t);
      bad = neither (λ e. cc) (some-not_bad bytes f n t d c.in-Some.ensures.some);
      within = some-in_range bytes f n t d c.in-Some.ensures.within;
      value = whole-seen bytes f n (some d) c.in-Whole.ensures.value c.in-Some.ensures.value;
      stays = λ not. whole-stays bytes f n (some d) (c.in-Whole.ensures.stays (λ e. cc)) c.in-Some.ensures.value;
    }

-- the shape of an instruction, without a row
pub returns-in-None : goal.returns-in-None
returns-in-None c =
    let bytes = c.args.bytes.now in let f = c.in-Whole.fields in let n = c.in-Whole.len in
    let t : Told bytes _ = told c.in-Whole.ensures.whole c.in-Whole.ensures.short in
    record {
      instr = λ d m. neither (λ e. cc) (none-instr bytes f n t c.in-None.ensures.some d m);
      short = neither (λ e. cc) (whole-not_short bytes f n t);
      too_long = neither (λ e. cc) (whole-not_long bytes f n t);
      bad = (λ e. none-bad bytes f n t c.in-None.ensures.some, λ h. refl);
      within = tt;
      value = whole-seen bytes f n None c.in-Whole.ensures.value c.in-None.ensures.value;
      stays = λ not. whole-stays bytes f n None (c.in-Whole.ensures.stays (λ e. cc)) c.in-None.ensures.value;
    }

-- few bytes
pub returns-in-Short : goal.returns-in-Short
returns-in-Short c =
    let bytes = c.args.bytes.now in let few = c.if-bytes-lt-LIMIT.true in
    let t : Told bytes _ = told c.in-Short.ensures.whole c.in-Short.ensures.short in
    record {
      instr = λ d n. neither (λ e. cc) (cut-instr bytes t d n);
      short = (λ e. cut-short bytes t few, λ h. refl);
      too_long = search rules;
      bad = neither (λ e. cc) (λ h. h.not_short (cut-short bytes t few));
      within = tt;
      value = few-seen bytes c.in-Short.ensures.value few;
      stays = λ not. absurd (not refl);
    }

-- many bytes
pub returns-in-Short-2 : goal.returns-in-Short-2
returns-in-Short-2 c =
    let bytes = c.args.bytes.now in let many = c.if-bytes-lt-LIMIT.false in
    let t : Told bytes _ = told c.in-Short-2.ensures.whole c.in-Short-2.ensures.short in
    record {
      instr = λ d n. neither (λ e. cc) (cut-instr bytes t d n);
      short = search rules;
      too_long = search rules;
      bad = search rules;
      within = tt;
      value = many-seen bytes c.in-Short-2.ensures.value many;
      stays = λ not more. many-stays bytes more c.in-Short-2.ensures.value many;
    }

-- no shape
pub returns-in-Dead : goal.returns-in-Dead
returns-in-Dead c =
    let bytes = c.args.bytes.now in
    let t : Told bytes _ = told c.in-Dead.ensures.whole c.in-Dead.ensures.short in
    record {
      instr = λ d n. neither (λ e. cc) (dead-instr bytes t d n);
      short = neither (λ e. cc) (dead-not_short bytes t);
      too_long = search rules;
      bad = (λ e. dead-bad bytes t, λ h. refl);
      within = tt;
      value = dead-seen bytes c.in-Dead.ensures.value;
      stays = λ not. dead-stays bytes (c.in-Dead.ensures.stays (λ e. cc));
    }
