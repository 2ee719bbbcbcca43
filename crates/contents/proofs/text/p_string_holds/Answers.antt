use Rattle.contents.specs.Text.{is_pstring}
use Rattle.contents.proofs.text.Laws.{p_string_on}
use Rattle.contents.proofs.text.p_string_holds.Goals as goal

pub returns-in-Some : goal.returns-in-Some
returns-in-Some c =
    let e = c.in-Some.ensures in
    rw c.from.ensures (p_string_on _ _ _ e.cases.0)

pub returns-in-None : goal.returns-in-None
unfolding is_pstring
returns-in-None c =
    let e = c.in-None.ensures in
    rw e.cases
