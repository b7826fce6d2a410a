use Rattle.names.proofs.Lookups.{among}
use Rattle.commands.specs.Commands.{builtins}
use Rattle.commands.proofs.builtin.of_its_length.Goals as goal

pub returns-in-3 : goal.returns-in-3
returns-in-3 c = among builtins c.args.name.now 3 _ c.in-3.is c.of_three.ensures

pub returns-in-4 : goal.returns-in-4
returns-in-4 c = among builtins c.args.name.now 4 _ c.in-4.is c.of_four.ensures

pub returns-in-5 : goal.returns-in-5
returns-in-5 c = among builtins c.args.name.now 5 _ c.in-5.is c.of_five.ensures

pub returns-in-6 : goal.returns-in-6
returns-in-6 c = among builtins c.args.name.now 6 _ c.in-6.is c.of_six.ensures

pub returns-in-7 : goal.returns-in-7
returns-in-7 c = among builtins c.args.name.now 7 _ c.in-7.is c.of_seven.ensures

pub returns-in-8 : goal.returns-in-8
returns-in-8 c = among builtins c.args.name.now 8 _ c.in-8.is c.of_eight.ensures

pub returns-in-9 : goal.returns-in-9
returns-in-9 c = among builtins c.args.name.now 9 _ c.in-9.is c.of_nine.ensures

pub returns-in-10 : goal.returns-in-10
returns-in-10 c = among builtins c.args.name.now 10 _ c.in-10.is c.of_ten.ensures

pub returns-in-12 : goal.returns-in-12
returns-in-12 c = among builtins c.args.name.now 12 _ c.in-12.is c.of_twelve.ensures
