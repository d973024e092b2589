use Rattle.std.proofs.Common.{ap}
use Rattle.smp_design.specs.{Words.{balances, is_near, row}, declared.method.Method.{Method}}
use Rattle.smp_methods.proofs.Columns.{balanced_values, few_points, one_each, one_point_each}
use Rattle.smp_methods.proofs.any.AnyDesign.new.Goals as goal

pub new-requires-in-LocalPivotal-clause-coordinates : goal.new-requires-in-LocalPivotal-clause-coordinates
unfolding row
new-requires-in-LocalPivotal-clause-coordinates c =
    few_points c.args.procedure c.args.request.now c.args.values.now c.args.points.now c.requires.values (ap (λ (m : Method). is_near (row m).needs) c.in-LocalPivotal.is)

pub new-requires-in-LocalPivotal-clause-paired : goal.new-requires-in-LocalPivotal-clause-paired
unfolding row
new-requires-in-LocalPivotal-clause-paired c =
    one_point_each c.args.procedure c.args.request.now c.args.values.now c.args.points.now c.requires.values (ap (λ (m : Method). is_near (row m).needs) c.in-LocalPivotal.is)

pub new-requires-in-Cube-clause-one_each : goal.new-requires-in-Cube-clause-one_each
unfolding row
new-requires-in-Cube-clause-one_each c =
    one_each c.args.procedure c.args.request.now c.args.values.now c.args.points.now c.requires.values (ap (λ (m : Method). balances m) c.in-Cube.is)

pub new-requires-in-Cube-clause-values : goal.new-requires-in-Cube-clause-values
unfolding row
new-requires-in-Cube-clause-values c =
    balanced_values c.args.procedure c.args.request.now c.args.values.now c.args.points.now c.requires.values (ap (λ (m : Method). balances m) c.in-Cube.is)

pub local_cube-requires-clause-near : goal.local_cube-requires-clause-near
unfolding row
local_cube-requires-clause-near c =
    few_points c.args.procedure c.args.request.now c.args.values.now c.args.points.now c.requires.values (ap (λ (m : Method). is_near (row m).needs) c.in-LocalCube.is)

pub local_cube-requires-clause-one_each : goal.local_cube-requires-clause-one_each
unfolding row
local_cube-requires-clause-one_each c =
    one_each c.args.procedure c.args.request.now c.args.values.now c.args.points.now c.requires.values (ap (λ (m : Method). balances m) c.in-LocalCube.is)

pub local_cube-requires-clause-paired : goal.local_cube-requires-clause-paired
unfolding row
local_cube-requires-clause-paired c =
    one_point_each c.args.procedure c.args.request.now c.args.values.now c.args.points.now c.requires.values (ap (λ (m : Method). is_near (row m).needs) c.in-LocalCube.is)

pub local_cube-requires-clause-balancing : goal.local_cube-requires-clause-balancing
unfolding row
local_cube-requires-clause-balancing c =
    balanced_values c.args.procedure c.args.request.now c.args.values.now c.args.points.now c.requires.values (ap (λ (m : Method). balances m) c.in-LocalCube.is)

pub stratified_cube-requires-clause-paired : goal.stratified_cube-requires-clause-paired
unfolding row
stratified_cube-requires-clause-paired c =
    one_each c.args.procedure c.args.request.now c.args.values.now c.args.points.now c.requires.values (ap (λ (m : Method). balances m) c.in-StratifiedCube.is)

pub stratified_cube-requires-clause-values : goal.stratified_cube-requires-clause-values
unfolding row
stratified_cube-requires-clause-values c =
    balanced_values c.args.procedure c.args.request.now c.args.values.now c.args.points.now c.requires.values (ap (λ (m : Method). balances m) c.in-StratifiedCube.is)
