pub mod GivenRuns
