mod Again
mod Walking
