mod Arms
mod Again
mod Back
