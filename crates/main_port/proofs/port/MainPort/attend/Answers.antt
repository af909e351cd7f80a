use Rattle.std.proofs.Common.{rules, ◌≡◌, ◌≤◌, ◌+◌, IfErr, IfOk, IfSome, false, is_some, true, ℕ, Bool, Option, subst}
use Rattle.main_port.specs.declared.serve_end.ServeEnd.{ServeEnd}
use Rattle.main_port.proofs.port.MainPort.attend.Goals as goal

pub returns-clause-most : goal.returns-clause-most
returns-clause-most g c =
    let most : c.new.result.acceptor.most ≡ c.args.self.most = search rules in
    subst (λ (o : Option ℕ). IfOk c.run.result.0 (λ (end : ServeEnd). IfSome o (λ n. end.served + end.failed ≤ n))) most c.run.ensures.most

pub returns-clause-all : goal.returns-clause-all
returns-clause-all g c = λ stays.
    let most : c.new.result.acceptor.most ≡ c.args.self.most = search rules in
    let open_end : c.new.result.acceptor.may_end ≡ false = search rules in
    subst (λ (o : Option ℕ). IfOk c.run.result.0 (λ (end : ServeEnd). IfSome o (λ n. end.served + end.failed ≡ n))) most (c.run.ensures.all open_end)

pub returns-clause-failed : goal.returns-clause-failed
returns-clause-failed g c =
    let journal : c.new.result.has_journal ≡ is_some c.args.service.scribe = search rules in
    subst (λ (b : Bool). IfErr c.run.result.0 (λ error. b ≡ true)) journal c.run.ensures.failed
