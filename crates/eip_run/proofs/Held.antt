-- What the routes of a command were read from is what they are read from.
use Rattle.std.proofs.Common.{◌≡◌, List, Option, Some, sym, ap, subst, ◌∙◌}
use Rattle.eip_command.specs.Words.{command_of}
use Rattle.eip_command.specs.declared.words.Path.{Path}
use Rattle.eip_command.specs.declared.words.Command.{Command}
use Rattle.eip_command.specs.declared.words.Command.TheVariants.{Drain, Check, Audit, Load, Migrate}
use Rattle.eip_endpoint.specs.Content.{IfTold}
use Rattle.eip_endpoint.specs.Files.{File}
use Rattle.eip_endpoint.specs.declared.files.FileRead.{FileRead}
use Rattle.eip_run.specs.Given.{Setting, asked}
use Rattle.eip_run.specs.Prepared.{sites, held_at, IsReadOf}
use Rattle.eip_run.specs.Caused.{IsHeldAt, Holds, InFile}

-- two commands of the same words are one
pub one-command : (x : Setting) (k l : Command) → command_of x.words ≡ Some k → command_of x.words ≡ Some l → k ≡ l
one-command x k l a b = cc (a, b)

-- what was read of a path is what its file holds
path-held : (p : Path) (files : Option (List File)) (held read : FileRead) → IsHeldAt p files held → IfTold files (λ all. read ≡ held_at p all) → read ≡ held
path-held p files held read h told = subst (λ (o : Option (List File)). IfTold o (λ all. read ≡ held_at p all)) h.told told ∙ sym h.held

read-held : (k : Command) (files : Option (List File)) (held read : FileRead) → Holds k files held → IsReadOf k files read → read ≡ held
read-held (Drain p workers turns journal) files held read h told = path-held p files held read h told
read-held (Check p) files held read h told = path-held p files held read h told
read-held (Audit p journal) files held read h told = path-held p files held read h told
read-held (Migrate old new) files held read h told = absurd h
read-held (Load n workers) files held read h told = told ∙ sym h

-- so what the routes were read from is what they are read from
pub was-held : (x : Setting) (k l : Command) (held read : FileRead) → InFile x k held → command_of x.words ≡ Some l → IsReadOf l x.before.materials.files read → read ≡ held
was-held x k l held read f command was =
    let same : l ≡ k = one-command x l k command f.command in
    read-held k x.before.materials.files held read f.holds (subst (λ (c : Command). IsReadOf c x.before.materials.files read) same was)

-- and what is found in it is
pub same-places : (x : Setting) (k l : Command) (held read : FileRead) → InFile x k held → command_of x.words ≡ Some l → IsReadOf l x.before.materials.files read → sites (asked x) read ≡ sites (asked x) held
same-places x k l held read f command was =
    ap (λ (r : FileRead). sites (asked x) r) (was-held x k l held read f command was)
