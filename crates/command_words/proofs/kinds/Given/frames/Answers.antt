use Rattle.std.proofs.Common.{◌∙◌, sym, ap, refl, nat_le, ◌||◌, is_some, ℕ}
use Rattle.std.proofs.lemmas.Result.{err_from_is_err_and}
use Rattle.command_words.specs.Reading.{first_fault, resident_checks, frames_in, pages_of}
use Rattle.command_words.proofs.EndLemmas.{frames-refused, swap-checked}
use Rattle.command_words.proofs.kinds.Given.frames.Goals as goal

pub returns-in_err-frames : goal.returns-in_err-frames
returns-in_err-frames c = record {
  answer =
      let p = err_from_is_err_and c.from_residual.result c.from_residual.ensures.1 in
      rw (p.1, p.2)
      (frames-refused c.args.self.now _
      (ap (λ (pages : ℕ). first_fault (resident_checks c.args.self.now.resident pages)) (sym c.pages-pages.ensures) ∙ c.in_err-frames.ensures.answer));
}

pub returns-in_err-check : goal.returns-in_err-check
returns-in_err-check c = record {
  answer =
      let given = c.args.self.now in
      let p = err_from_is_err_and c.from_residual-in_err-check.result c.from_residual-in_err-check.ensures.1 in
      rw (p.1, p.2, c.in_err-check.ensures.1)
      (swap-checked given c.is_held.result _
      (ap (λ (pages : ℕ). first_fault (resident_checks given.resident pages)) (sym c.pages-pages.ensures) ∙ c.in_ok-frames.ensures.answer.0)
      (c.is_held.ensures
      ∙ ap (λ (frames : ℕ). nat_le c.pages-pages.result frames || is_some given.swap) c.in_ok-frames.ensures.answer.1
      ∙ ap (λ (pages : ℕ). nat_le pages (frames_in given.resident pages) || is_some given.swap) c.pages-pages.ensures)
      (rw c.in_err-check.ensures.0 refl));
}

pub returns : goal.returns
returns c = record {
  answer =
      let given = c.args.self.now in (
        swap-checked given c.is_held.result _
            (ap (λ (pages : ℕ). first_fault (resident_checks given.resident pages)) (sym c.pages-pages.ensures) ∙ c.in_ok-frames.ensures.answer.0)
            (c.is_held.ensures
            ∙ ap (λ (frames : ℕ). nat_le c.pages-pages.result frames || is_some given.swap) c.in_ok-frames.ensures.answer.1
            ∙ ap (λ (pages : ℕ). nat_le pages (frames_in given.resident pages) || is_some given.swap) c.pages-pages.ensures)
            (rw c.in_ok-check.ensures refl),
        c.in_ok-frames.ensures.answer.1 ∙ ap (frames_in given.resident) c.pages-pages.ensures,
      );
}
