use Rattle.std.proofs.Common.{◌≡◌, refl, sym, ap, ◌∙◌}
use Rattle.mfotl_lex.specs.declared.kind.Kind.TheVariants.{OpenParen, CloseParen, Comma, At}
use Rattle.log_reader.specs.declared.stage.Stage.{Stage}
use Rattle.log_reader.specs.declared.stage.Stage.TheVariants.{Between, AfterAt, AfterName, AfterOpen, AfterValue}
use Rattle.log_reader.specs.declared.stage.Stage.TheVariants.{AfterComma, AfterClose}
use Rattle.log_reader.specs.Partials.{Partial}
use Rattle.log_reader.proofs.MarkLemmas.{mark_steps}
use Rattle.log_reader.proofs.partial.Partial.take_mark.Goals as goal

staged : {p q : Partial} {stage : Stage} → q ≡ p → q.stage ≡ stage → p.stage ≡ stage
staged same is = sym (ap (λ (r : Partial). r.stage) same) ∙ is

pub returns-in-AfterValue : goal.returns-in-AfterValue
returns-in-AfterValue c =
    mark_steps 44 Comma AfterValue AfterComma (staged c.self.view_is c.in-AfterValue.is) c.if-b-eq44.true refl refl refl
    (λ _. c.separate.ensures)

pub returns-in-AfterValue-2 : goal.returns-in-AfterValue-2
returns-in-AfterValue-2 c =
    mark_steps 41 CloseParen AfterValue AfterClose (staged c.self.view_is c.in-AfterValue-2.is) c.if-b-eq41.true
    refl refl refl (λ _. c.end_group.ensures)

pub returns-in-AfterName : goal.returns-in-AfterName
returns-in-AfterName c =
    mark_steps 40 OpenParen AfterName AfterOpen (staged c.self.view_is c.in-AfterName.is) c.if-b-eq40.true refl refl
    refl
    (λ _. c.begin_group.ensures)

pub returns-in-AfterClose : goal.returns-in-AfterClose
returns-in-AfterClose c =
    mark_steps 40 OpenParen AfterClose AfterOpen (staged c.self.view_is c.in-AfterClose.is) c.if-b-eq40-2.true
    refl refl refl (λ _. c.begin_group-in-AfterClose.ensures)

pub returns-in-Between : goal.returns-in-Between
returns-in-Between c =
    mark_steps 64 At Between AfterAt (staged c.self.view_is c.in-Between.is) c.if-b-eq64.true refl refl refl
    (λ _. c.open.ensures)
