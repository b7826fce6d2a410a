use Rattle.names.proofs.Lookups.{among}
use Rattle.pure.specs.Strings.{subcommands}
use Rattle.pure.proofs.string.Subcommand.named.Goals as goal

pub returns-in-4 : goal.returns-in-4
returns-in-4 c = among subcommands c.args.name.now 4 _ c.in-4.is c.of_four.ensures

pub returns-in-5 : goal.returns-in-5
returns-in-5 c = among subcommands c.args.name.now 5 _ c.in-5.is c.of_five.ensures

pub returns-in-6 : goal.returns-in-6
returns-in-6 c = among subcommands c.args.name.now 6 _ c.in-6.is c.of_six.ensures

pub returns-in-7 : goal.returns-in-7
returns-in-7 c = among subcommands c.args.name.now 7 _ c.in-7.is c.of_seven.ensures

pub returns-in-8 : goal.returns-in-8
returns-in-8 c = among subcommands c.args.name.now 8 _ c.in-8.is c.of_eight.ensures

pub returns-in-9 : goal.returns-in-9
returns-in-9 c = among subcommands c.args.name.now 9 _ c.in-9.is c.of_nine.ensures
