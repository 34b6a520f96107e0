-- Sources, targets, values and checks that fit are good.
use Rattle.std.proofs.Common.{true, Option, Some, None, ◌≡◌, refl}
use Rattle.std.proofs.lemmas.Bool.{and_from}
use Rattle.eip_uri.specs.declared.uri.Uri.{Uri}
use Rattle.eip_route.specs.Valid.{is_source, is_target, is_dead, is_check, is_expr, is_handler}
use Rattle.eip_route.specs.declared.route.Handler.{Handler}
use Rattle.eip_route.specs.declared.route.Names.{Names}
use Rattle.eip_route.specs.declared.step.Check.{Check}
use Rattle.eip_route.specs.declared.step.Check.TheVariants as check
use Rattle.eip_route.specs.declared.step.Expr.{Expr}
use Rattle.eip_route.specs.declared.step.Expr.TheVariants as expr
use Rattle.eip_route_validity.specs.Fit.{ExprFits, CheckFits, TargetFits, SourceFits, DeadFits, HandlerFits}

pub good_target : (n : Names) (u : Uri) → TargetFits n u → is_target n u ≡ true
good_target n u h = and_from _ _ (and_from _ _ h.0 h.1.0) h.1.1

pub good_source : (n : Names) (u : Uri) → SourceFits n u → is_source n u ≡ true
good_source n u h = and_from _ _ (and_from _ _ h.0 h.1.0) h.1.1

good_dead : (n : Names) (o : Option Uri) → DeadFits n o → is_dead n o ≡ true
good_dead n None h = refl
good_dead n (Some u) h = good_target n u h

pub good_handler : (n : Names) (x : Handler) → HandlerFits n x → is_handler n x ≡ true
good_handler n x h = and_from _ _ (good_dead n x.dead h.dead) h.policy

pub good_expr : (e : Expr) → ExprFits e → is_expr e ≡ true
good_expr (expr.Simple template) h = refl
good_expr (expr.Constant text) h = refl
good_expr (expr.Header name) h = h
good_expr (expr.Property name) h = h

pub good_check : (n : Names) (c : Check) → CheckFits n c → is_check n c ≡ true
good_check n (check.Simple predicate) h = refl
good_check n (check.Fixed flag) h = refl
good_check n (check.Stored name) h = h.1
